use Rattle.std.proofs.Common.{◌≡◌, ◌∙◌, ◌<◌, ◌≤◌, get_or, length, ap, sym, arith}
use Rattle.rule_runs.proofs.Tables.{places-there, places-past}
use Rattle.rule_runs.proofs.index.places_of.Goals as goal

pub returns-in-Some : goal.returns-in-Some
returns-in-Some c =
    let first = c.args.first.now.items in
    let L = c.in-Some.ensures.lookup in
    let l : c.args.number < length first = omega (arith, L.3.0, ap length c.deref.ensures.value) in
    let e : c.in-Some.places.now ≡ get_or first c.args.number c.in-Some.places.now = L.1 ∙ ap (λ xs. get_or xs c.args.number c.in-Some.places.now) c.deref.ensures.value in
    c.as_slice.ensures.value ∙ sym (places-there first c.args.number c.in-Some.places.now l e)

pub returns-in-None : goal.returns-in-None
returns-in-None c =
    let l : length c.args.first.now.items ≤ c.args.number = omega (arith, c.in-None.ensures.lookup.3, ap length c.deref.ensures.value) in
    sym (places-past c.args.first.now.items c.args.number l)
