use Rattle.std.proofs.Common.{ap, sym, ◌∙◌}
use Rattle.std.specs.Prelude.{slice_get}
use Rattle.std.proofs.Math.Bool.{true≢false}
use Rattle.plain_tree.specs.NameTable.{seen_pair}
use Rattle.preorder_address.proofs.TreeSpots.{spot-named}
use Rattle.tree_updates.proofs.ValuedStores.{kind-is, value-allowed, allowed-value}
use Rattle.tree_updates.proofs.valuing.value_rank.Goals as goal

pub unreachable-requires : goal.unreachable-requires
unreachable-requires g c =
    let s = c.args.store.now in
    let a = c.in_ok-spot.spot in
    let r = c.requires.store in
    spot-named s.names s.grammar.rules r.0 r.1.stand.code c.args.number a.levels.items a.symbol a.before c.in_ok-spot.ensures.spot (ap seen_pair (sym c.in_default.is) ∙ c.at.ensures ∙ ap (slice_get s.names) c.symbol.ensures)

pub returns-then-may_have_value-clause-allowed : goal.returns-then-may_have_value-clause-allowed
returns-then-may_have_value-clause-allowed g c = λ t i.
    let s = c.args.store.now in
    let a = c.in_ok-spot.spot in
    value-allowed s t i c.args.number a c.in_ok-spot.ensures.spot (c.in_ok-spot.ensures.there t i) c.in-Some.kind c.in-Some.name.now (c.in-Some.ensures ∙ ap (slice_get s.names) c.symbol.ensures) c.args.value.now (c.may_have_value.ensures.0 c.if-may_have_value.true)

pub returns-clause-refused : goal.returns-clause-refused
returns-clause-refused g c = λ t i.
    let s = c.args.store.now in
    let a = c.in_ok-spot.spot in
    let low = c.in_ok-spot.ensures.there t i in
    let pair = c.in-Some.ensures ∙ ap (slice_get s.names) c.symbol.ensures in (
      sym (kind-is s t i c.args.number a c.in_ok-spot.ensures.spot low c.in-Some.kind c.in-Some.name.now pair),
      λ h. true≢false (sym (c.may_have_value.ensures.1 (allowed-value s t i c.args.number a c.in_ok-spot.ensures.spot low c.in-Some.kind c.in-Some.name.now pair c.args.value.now h)) ∙ c.if-may_have_value.false),
    )
