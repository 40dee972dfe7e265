use Rattle.std.proofs.Common.{List, subst}
use Rattle.std.proofs.lemmas.Result.{IfOk-weaker}
use Rattle.value_cursor.specs.Cursors.{BeginsAtNode}
use Rattle.value_cursor.specs.declared.cursor.Token.{Token}
use Rattle.store_core.specs.Walking.{HasRoom}
use Rattle.store_core.proofs.Walks.{same-tokens}
use Rattle.store_core.proofs.walking.enough_places.Goals as goal

pub returns-then-number-eq0 : goal.returns-then-number-eq0
returns-then-number-eq0 g c = IfOk-weaker c.places_anywhere.result _ _ (λ places enough. enough c.args.number) c.places_anywhere.ensures

pub returns-in-Some : goal.returns-in-Some
returns-in-Some g c = λ cursor begins.
    let rules = c.args.store.now.grammar.rules in
    let ahead : BeginsAtNode rules c.args.number c.in-Some.ahead = rw c.in-Some.is at c.in_ok-ahead.ensures.begins in
    let same = same-tokens rules c.args.number c.in-Some.ahead cursor ahead begins in
    subst (λ (ts : List Token). HasRoom c.deepest.result 0 ts) same c.deepest.ensures
