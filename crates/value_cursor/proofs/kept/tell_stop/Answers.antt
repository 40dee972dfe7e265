use Rattle.std.proofs.Common.{◌≡◌, ◌++◌, [], ◌∷◌, List, ap, sym, subst, ◌∙◌, Some}
use Rattle.std.specs.Prelude.{if◌then◌else◌, is_ok}
use Rattle.value_cursor.specs.Cursors.{found, left_at}
use Rattle.value_cursor.specs.Kept.{Told, label_of}
use Rattle.value_cursor.specs.declared.cursor.Token.{Token}
use Rattle.value_cursor.proofs.Keeping.{told-one}
use Rattle.value_cursor.proofs.Leaving.{last-key}
use Rattle.value_cursor.proofs.Telling.{token-left}
use Rattle.value_cursor.proofs.kept.tell_stop.Goals as goal

pub label-label-requires : goal.label-label-requires
label-label-requires g c = last-key c.args.grammar.now c.requires.keyed c.args.calls.now.items c.args.here.now c.requires.stops

pub returns-clause-told : goal.returns-clause-told
returns-clause-told g c =
    let G = c.args.grammar.now.rules in
    let old = c.args.tokens.now.items in
    let all = left_at G (Some c.args.here.now) c.args.calls.now.items in
    let left = left_at G (found c.pass.result c.pass.new.here) c.pass.new.calls.items in
    let e : c.push.new.self.items ≡ old ++ c.in-Some.token ∷ [] = c.push.ensures.items ∙ ap (λ b. if b then old ++ c.in-Some.token ∷ [] else old) (ap is_ok c.unwrap.ensures) in
    let t = token-left c.args.grammar.now c.requires.keyed c.args.calls.now.items c.args.here.now c.requires.stops c.label-label.result c.label-label.ensures.node c.in-Some.token c.in-Some.ensures.some.0 c.in-Some.ensures.some.1 in
    subst (λ (ts : List Token). Told all left old ts) (sym e) (told-one all left c.in-Some.token old (t ∙ ap (λ ls. label_of c.in-Some.token ∷ ls) (sym c.pass.ensures.left)))
