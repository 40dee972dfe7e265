use Rattle.std.proofs.Common.{◌≡◌, ◌+◌, ◌-◌, ℕ, Some, arith, sym, ◌∙◌}
use Rattle.plain_tree.specs.Tree.{Tree}
use Rattle.plain_tree.proofs.Changing.{some-node}
use Rattle.preorder_address.specs.TreeNumbers.{extent_at}
use Rattle.preorder_address.proofs.TreeSpots.{spot-place}
use Rattle.tree_updates.specs.Extents.{IsCodedBy, IsExtentOf}
use Rattle.tree_updates.specs.Stores.{IsStoreFor}
use Rattle.tree_updates.specs.declared.node_extent.Extent.{Extent}
use Rattle.tree_updates.specs.declared.store.Store.{Store}
use Rattle.tree_updates.proofs.AppendedTexts.{kid-meets, last-low, no-first, no-kid, no-kids, no-text}
use Rattle.tree_updates.proofs.LeavingDocuments.{coded, unswept}
use Rattle.tree_updates.proofs.NodeExtents.{spot-low}
use Rattle.tree_updates.proofs.SpotExtents.{below-told, spot-measured}
use Rattle.tree_updates.proofs.SpotPlaces.{place-fits, place-small}
use Rattle.tree_updates.proofs.appending_joined.meeting_kid.Goals as goal

-- how many nodes are below the one with the extent
told : (s : Store) (t : Tree) → IsStoreFor s t → (n : ℕ) (e : Extent) → ((u : Tree) → IsCodedBy s u → IsExtentOf u n e) → Some (e.nodes - 1) ≡ extent_at t n
told s t i n e x = below-told t i.stand.document n e (x t (coded s t (unswept s t i)))

pub overflow_sub-below : goal.overflow_sub-below
overflow_sub-below g c =
    let r = c.requires.store in
    let x = c.requires.extent r.0 (coded c.args.store.now r.0 (unswept c.args.store.now r.0 r.1)) in
    omega (arith, x.nodes, some-node x.here)

pub returns-then-not-begins_with_text-clause-apart : goal.returns-then-not-begins_with_text-clause-apart
returns-then-not-begins_with_text-clause-apart g c = λ t i edit.
    no-first t c.args.number c.args.fragment.now edit (sym c.begins_with_text.ensures ∙ c.if-not-begins_with_text.true)

pub returns-then-below-eq0-clause-apart : goal.returns-then-below-eq0-clause-apart
returns-then-below-eq0-clause-apart g c = λ t i edit.
    let s = c.args.store.now in
    let n = c.args.number in
    no-kids t n c.args.fragment.now edit (c.args.extent.nodes - 1) (told s t i n c.args.extent c.requires.extent) c.if-below-eq0.true

pub overflow_add-last : goal.overflow_add-last
overflow_add-last g c =
    let s = c.args.store.now in
    let n = c.args.number in
    let r = c.requires.store in
    omega (arith, last-low r.0 n c.args.fragment.now r.2 (c.args.extent.nodes - 1) (told s r.0 r.1 n c.args.extent c.requires.extent), r.1.small)

pub spot_there-requires-clause-store : goal.spot_there-requires-clause-store
spot_there-requires-clause-store g c =
    let s = c.args.store.now in
    let n = c.args.number in
    let r = c.requires.store in
    (r.0, r.1, last-low r.0 n c.args.fragment.now r.2 (c.args.extent.nodes - 1) (told s r.0 r.1 n c.args.extent c.requires.extent))

pub returns-then-not-is_text-clause-apart : goal.returns-then-not-is_text-clause-apart
returns-then-not-is_text-clause-apart g c = λ t i edit.
    let s = c.args.store.now in
    let n : ℕ = c.args.number in
    let m : ℕ = c.args.number + (c.args.extent.nodes - 1) in
    let code = i.stand.code in
    let S = c.in_ok-kid.ensures.spot in
    no-text t n c.args.fragment.now edit (c.args.extent.nodes - 1) (told s t i n c.args.extent c.requires.extent) c.if-below-eq0.false c.kind.result (c.kind.ensures s.grammar.rules m t S code)
    c.args.spot.now.before.all c.in_ok-kid.kid.before.all (spot-place s.names s.grammar.rules t code n _ _ _ c.requires.spot) (spot-place s.names s.grammar.rules t code m _ _ _ S) (sym c.is_text.ensures ∙ c.if-not-is_text.true)

pub overflow_add-place : goal.overflow_add-place
overflow_add-place g c =
    let s = c.args.store.now in
    let m : ℕ = c.args.number + (c.args.extent.nodes - 1) in
    let r = c.requires.store in
    let code = r.1.stand.code in
    let S = c.in_ok-kid.ensures.spot in
    omega (arith, place-small r.0 m c.place.result (spot-low s.names s.grammar.rules r.0 m c.in_ok-kid.kid code S) (c.place.ensures s.names s.grammar.rules m r.0 S code), r.1.small)

pub overflow_mul-below : goal.overflow_mul-below
overflow_mul-below g c =
    let s = c.args.store.now in
    let n = c.args.number in
    let r = c.requires.store in
    omega (arith, last-low r.0 n c.args.fragment.now r.2 (c.args.extent.nodes - 1) (told s r.0 r.1 n c.args.extent c.requires.extent), r.1.small)

pub overflow_add-place-2 : goal.overflow_add-place-2
overflow_add-place-2 g c =
    let s = c.args.store.now in
    let n = c.args.number in
    let r = c.requires.store in
    let code = r.1.stand.code in
    let m = spot-measured s.names s.grammar.rules r.0 n (c.args.extent.nodes - 1) c.args.spot.now r.1.stand.document code c.requires.spot (told s r.0 r.1 n c.args.extent c.requires.extent) in
    omega (arith, place-fits r.0 n m.low m.here m.behind m.from_is c.place-2.result (c.place-2.ensures s.names s.grammar.rules n r.0 c.requires.spot code), m.many, r.1.small)

pub returns-then-place-below-clause-apart : goal.returns-then-place-below-clause-apart
returns-then-place-below-clause-apart g c = λ t i edit.
    let s = c.args.store.now in
    let n : ℕ = c.args.number in
    let m : ℕ = c.args.number + (c.args.extent.nodes - 1) in
    let code = i.stand.code in
    let S = c.in_ok-kid.ensures.spot in
    no-kid t n c.args.fragment.now edit (c.args.extent.nodes - 1) (told s t i n c.args.extent c.requires.extent) c.if-below-eq0.false c.kind.result (c.kind.ensures s.grammar.rules m t S code)
    c.place-2.result c.place.result (c.place-2.ensures s.names s.grammar.rules n t c.requires.spot code) (c.place.ensures s.names s.grammar.rules m t S code) c.if-place-below.true

pub returns-clause-meets : goal.returns-clause-meets
returns-clause-meets g c = λ t i edit.
    let s = c.args.store.now in
    let n : ℕ = c.args.number in
    let m : ℕ = c.args.number + (c.args.extent.nodes - 1) in
    let code = i.stand.code in
    let S = c.in_ok-kid.ensures.spot in
    kid-meets t n c.args.fragment.now edit (c.args.extent.nodes - 1) (told s t i n c.args.extent c.requires.extent) c.if-below-eq0.false c.kind.result (c.kind.ensures s.grammar.rules m t S code)
    c.place-2.result c.place.result (c.place-2.ensures s.names s.grammar.rules n t c.requires.spot code) (c.place.ensures s.names s.grammar.rules m t S code)
    (sym c.begins_with_text.ensures ∙ c.if-not-begins_with_text.false) (sym c.is_text.ensures ∙ c.if-not-is_text.false) c.if-place-below.false
