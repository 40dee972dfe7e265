use Rattle.std.proofs.Common.{sym, ◌∙◌}
use Rattle.std.proofs.Math.Bool.{true≢false}
use Rattle.tree_updates.proofs.AttributePlaces.{allowed-element, element-allowed}
use Rattle.tree_updates.proofs.NameableNodes.{kind-some}
use Rattle.tree_updates.proofs.attribute_setting.element_spot.Goals as goal

pub unreachable-requires : goal.unreachable-requires
unreachable-requires g c =
    let s = c.args.store.now in
    let r = c.requires.store in
    kind-some r.0 c.args.number (c.in_ok-spot.ensures.there r.0 r.1) (sym c.in_default.is ∙ c.kind.ensures s.grammar.rules c.args.number r.0 c.in_ok-spot.ensures.spot r.1.stand.code)

pub returns-then-not-is_element-clause-answer : goal.returns-then-not-is_element-clause-answer
returns-then-not-is_element-clause-answer g c = λ t name value i.
    let s = c.args.store.now in
    let told = sym c.in-Some.is ∙ c.kind.ensures s.grammar.rules c.args.number t c.in_ok-spot.ensures.spot i.stand.code in (
      sym told,
      λ h. true≢false (sym (c.is_element.ensures.1 (allowed-element t c.args.number c.in-Some.kind told name value h)) ∙ c.if-not-is_element.true),
    )

pub returns-clause-answer : goal.returns-clause-answer
returns-clause-answer g c = λ t name value i.
    let s = c.args.store.now in
    let told = sym c.in-Some.is ∙ c.kind.ensures s.grammar.rules c.args.number t c.in_ok-spot.ensures.spot i.stand.code in
    element-allowed t c.args.number c.in-Some.kind told name value (c.is_element.ensures.0 c.if-not-is_element.false)
