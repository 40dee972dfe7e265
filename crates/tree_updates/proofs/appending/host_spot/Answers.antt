use Rattle.std.proofs.Common.{sym, ◌∙◌}
use Rattle.std.proofs.Math.Bool.{true≢false}
use Rattle.tree_updates.proofs.AppendedStores.{allowed-under, under-allowed}
use Rattle.tree_updates.proofs.NameableNodes.{kind-some}
use Rattle.tree_updates.proofs.appending.host_spot.Goals as goal

pub unreachable-requires : goal.unreachable-requires
unreachable-requires g c =
    let s = c.args.store.now in
    let r = c.requires.store in
    kind-some r.0 c.args.number (c.in_ok-spot.ensures.there r.0 r.1) (sym c.in_default.is ∙ c.kind.ensures s.grammar.rules c.args.number r.0 c.in_ok-spot.ensures.spot r.1.stand.code)

pub returns-then-not-may_stand_under-clause-answer : goal.returns-then-not-may_stand_under-clause-answer
returns-then-not-may_stand_under-clause-answer g c = λ t i.
    let s = c.args.store.now in
    let told = sym c.in-Some.is ∙ c.kind.ensures s.grammar.rules c.args.number t c.in_ok-spot.ensures.spot i.stand.code in (
      sym told,
      λ h. true≢false (sym (c.may_stand_under.ensures.1 (allowed-under t c.args.number c.in-Some.kind told c.args.fragment.now h)) ∙ c.if-not-may_stand_under.true),
    )

pub returns-clause-answer : goal.returns-clause-answer
returns-clause-answer g c = λ t i.
    let s = c.args.store.now in
    let told = sym c.in-Some.is ∙ c.kind.ensures s.grammar.rules c.args.number t c.in_ok-spot.ensures.spot i.stand.code in
    under-allowed t c.args.number c.in-Some.kind told c.args.fragment.now (c.may_stand_under.ensures.0 c.if-not-may_stand_under.false)
