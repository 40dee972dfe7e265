use Rattle.std.proofs.Common.{arith, ◌≡◌, ◌+◌, ◌-◌, ◌∙◌, ap, Some}
use Rattle.preorder_address.proofs.ParentStops.{last-stop, up-there}
use Rattle.preorder_address.proofs.parent.edge_above.Goals as goal

pub site-label-requires : goal.site-label-requires
site-label-requires g c =
    let a = c.args in
    let h = c.requires.there in
    let f = c.site.ensures.parent h.0 h.1 h.2 ∙ c.in_ok-up.was in
    let l = last-stop a.grammar.now c.requires.keyed h.0 h.1 a.key h.2 (c.in_ok-up.up, c.in_ok-up.place) f in
    (h.0, l.place, up-there a.grammar.now c.requires.keyed h.0 h.1 a.key h.2 (c.in_ok-up.up, c.in_ok-up.place) f)

pub overflow_sub-result : goal.overflow_sub-result
overflow_sub-result g c =
    let a = c.args in
    let h = c.requires.there in
    let f = c.site.ensures.parent h.0 h.1 h.2 ∙ c.in_ok-up.was in
    let l = last-stop a.grammar.now c.requires.keyed h.0 h.1 a.key h.2 (c.in_ok-up.up, c.in_ok-up.place) f in
    omega (arith, l.kid)

pub returns-clause-parent : goal.returns-clause-parent
returns-clause-parent g c = λ r p e.
    let a = c.args in
    let f = c.site.ensures.parent r p e ∙ c.in_ok-up.was in
    let l = last-stop a.grammar.now c.requires.keyed r p a.key e (c.in_ok-up.up, c.in_ok-up.place) f in
    let z : c.in_ok-up.place ≡ c.in_ok-up.place - 1 + 1 = omega (arith, l.kid) in
    f ∙ ap (λ k. Some (c.in_ok-up.up, k)) z
