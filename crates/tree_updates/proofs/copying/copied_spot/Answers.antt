use Rattle.std.proofs.Common.{sym, ◌∙◌}
use Rattle.std.proofs.lemmas.Result.{err_from_is_err_and}
use Rattle.std.proofs.Math.Bool.{true≢false}
use Rattle.tree_updates.proofs.CopiedNodes.{attribute-stays, goes-copied, refused-copy}
use Rattle.tree_updates.proofs.NameableNodes.{told-low}
use Rattle.tree_updates.proofs.NodeExtents.{spot-low}
use Rattle.tree_updates.proofs.SpareNodes.{kind-there}
use Rattle.tree_updates.proofs.copying.copied_spot.Goals as goal

pub unreachable-requires : goal.unreachable-requires
unreachable-requires g c =
    let r = c.requires.store in
    let a = c.args.store.now in
    let low = spot-low a.names a.grammar.rules r.0 c.args.number c.in_ok-spot.spot r.1.stand.code c.in_ok-spot.ensures.spot in
    kind-there r.0 r.1.stand.document c.args.number low c.kind.result (c.kind.ensures a.grammar.rules c.args.number r.0 c.in_ok-spot.ensures.spot r.1.stand.code) c.in_default.is

pub returns-in_err-spot-clause-answer : goal.returns-in_err-spot-clause-answer
returns-in_err-spot-clause-answer g c =
    let p = err_from_is_err_and c.from_residual.result c.from_residual.ensures.1 in
    rw (p.1, p.2) (λ t i. refused-copy t i.stand.document i.small c.args.number c.in_err-spot.field-0.0 (c.in_err-spot.ensures.answer t i))

pub returns-then-is_attribute-clause-answer : goal.returns-then-is_attribute-clause-answer
returns-then-is_attribute-clause-answer g c = λ t i.
    let a = c.args.store.now in
    let n = c.args.number in
    let told = sym (c.kind.ensures a.grammar.rules n t c.in_ok-spot.ensures.spot i.stand.code) ∙ c.in-Some.is in
    (told, attribute-stays t i.stand.document n (told-low t n c.in-Some.kind (sym told)) c.in-Some.kind told (c.is_attribute.ensures.0 c.if-is_attribute.true))

pub returns-clause-answer : goal.returns-clause-answer
returns-clause-answer g c = λ t i.
    let a = c.args.store.now in
    let n = c.args.number in
    let told = sym (c.kind.ensures a.grammar.rules n t c.in_ok-spot.ensures.spot i.stand.code) ∙ c.in-Some.is in
    goes-copied t i.stand.document n (told-low t n c.in-Some.kind (sym told)) c.in-Some.kind told (c.in_ok-spot.ensures.answer t i) (λ e. true≢false (sym (c.is_attribute.ensures.1 e) ∙ c.if-is_attribute.false))
