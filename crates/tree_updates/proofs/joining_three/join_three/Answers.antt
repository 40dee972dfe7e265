use Rattle.std.proofs.Common.{◌-◌, ℕ, List, ap, ◌∙◌, subst, arith, length}
use Rattle.std.specs.Prelude.{slice_set}
use Rattle.std.proofs.lemmas.Option.{slice_get_within}
use Rattle.plain_tree.specs.declared.edit.Edit.TheVariants.{Delete}
use Rattle.plain_tree.specs.Edits.{placed}
use Rattle.tree_updates.specs.Stores.{IsStoreFor}
use Rattle.tree_updates.proofs.JoinedThrees.{added-there, before-there, comes-to-edited, delete-leaves, here-extent, here-there, is-there, place-some, three-is, valued, valued-three}
use Rattle.tree_updates.proofs.LeavingDocuments.{unswept}
use Rattle.tree_updates.proofs.NodeExtents.{extent-is}
use Rattle.slt_grammar.specs.Keyed.{KeyedRule}
use Rattle.start_fronts.specs.Moved.{MovesBefore}
use Rattle.segment_counts.specs.Weights.{node_weight}
use Rattle.tree_updates.specs.Fronts.{first_keys}
use Rattle.tree_updates.proofs.MovedMarks.{moves-swept}
use Rattle.tree_updates.proofs.joining_three.join_three.Goals as goal

pub overflow_sub-rank : goal.overflow_sub-rank
overflow_sub-rank g c = let r = c.requires.between in let p = place-some c.args.store.now r.0 r.2 c.args.number c.args.rank r.1 c.args.added.now r.3 in omega (arith, p.0)

pub overflow_sub-rank-2 : goal.overflow_sub-rank-2
overflow_sub-rank-2 g c = let r = c.requires.between in let p = place-some c.args.store.now r.0 r.2 c.args.number c.args.rank r.1 c.args.added.now r.3 in omega (arith, p.0)

pub unwrap-before-requires : goal.unwrap-before-requires
unwrap-before-requires g c =
    let r = c.requires.between in
    is-there c.get.result r.3.before (c.get.ensures ∙ before-there c.args.store.now r.0 r.2 c.args.number c.args.rank r.1 c.args.added.now r.3)

pub unwrap-text-requires : goal.unwrap-text-requires
unwrap-text-requires g c =
    let r = c.requires.between in
    is-there c.value_at.result r.3.value (c.value_at.ensures ∙ added-there c.args.store.now r.0 r.2 c.args.number c.args.rank r.1 c.args.added.now r.3)

pub unwrap-here-requires : goal.unwrap-here-requires
unwrap-here-requires g c =
    let r = c.requires.between in
    is-there c.get-2.result r.3.here (c.get-2.ensures ∙ here-there c.args.store.now r.0 r.2 c.args.number c.args.rank r.1 c.args.added.now r.3)

pub set-requires-clause-place : goal.set-requires-clause-place
set-requires-clause-place g c =
    let r = c.requires.between in
    let a = c.args.store.now in
    let w = slice_get_within a.texts.texts (c.args.rank - 1) r.3.before (before-there a r.0 r.2 c.args.number c.args.rank r.1 c.args.added.now r.3) in
    omega (arith, w, ap (λ (xs : List (List ℕ)). length xs) c.reserve_at.ensures.texts)

pub take_out-requires-clause-room : goal.take_out-requires-clause-room
take_out-requires-clause-room g c = omega (arith, c.in_ok-reserve_at.ensures.nodes)

pub take_out-requires-clause-links : goal.take_out-requires-clause-links
take_out-requires-clause-links g c = omega (arith, c.in_ok-reserve_at.ensures.links)

pub take_out-requires-clause-store : goal.take_out-requires-clause-store
take_out-requires-clause-store g c =
    let r = c.requires.between in
    let a = c.args.store.now in
    let n = c.args.number in
    let s = c.reserve_at.new.store in
    let v = three-is a r.0 r.2 n c.args.rank r.1 c.args.added.now r.3 c.get.result c.value_at.result c.get-2.result c.unwrap-before.result c.unwrap-text.result c.unwrap-here.result c.unwrap-before.ensures c.unwrap-text.ensures c.unwrap-here.ensures
    c.get.ensures c.value_at.ensures c.get-2.ensures in
    let texts = c.set.ensures.texts ∙ ap (slice_set s.texts.texts (c.args.rank - 1)) (c.in_ok-value.ensures ∙ v) in (
      valued a r.0 r.2 n c.args.rank r.1 c.args.added.now r.3,
      valued-three a r.0 r.2 n c.args.rank r.1 c.args.added.now r.3 s (unswept s r.0 (c.reserve_at.ensures.store r.0 r.2)) c.set.new.self texts,
      extent-is c.text_extent.result c.text_extent.ensures (here-extent a r.0 r.2 n c.args.rank r.1 c.args.added.now r.3),
      delete-leaves a r.0 r.2 n c.args.rank r.1 c.args.added.now r.3,
    )

pub sweep-requires : goal.sweep-requires
sweep-requires g c =
    let r = c.requires.between in
    let a = c.args.store.now in
    let n = c.args.number in
    let s = c.reserve_at.new.store in
    let v = three-is a r.0 r.2 n c.args.rank r.1 c.args.added.now r.3 c.get.result c.value_at.result c.get-2.result c.unwrap-before.result c.unwrap-text.result c.unwrap-here.result c.unwrap-before.ensures c.unwrap-text.ensures c.unwrap-here.ensures
    c.get.ensures c.value_at.ensures c.get-2.ensures in
    let texts = c.set.ensures.texts ∙ ap (slice_set s.texts.texts (c.args.rank - 1)) (c.in_ok-value.ensures ∙ v) in
    let one = valued a r.0 r.2 n c.args.rank r.1 c.args.added.now r.3 in
    let u = valued-three a r.0 r.2 n c.args.rank r.1 c.args.added.now r.3 s (unswept s r.0 (c.reserve_at.ensures.store r.0 r.2)) c.set.new.self texts in
    record {
      store = (placed one (Delete n), c.take_out.ensures.store one u (extent-is c.text_extent.result c.text_extent.ensures (here-extent a r.0 r.2 n c.args.rank r.1 c.args.added.now r.3)) (delete-leaves a r.0 r.2 n c.args.rank r.1 c.args.added.now r.3));
    }

pub returns-clause-store : goal.returns-clause-store
returns-clause-store g c = λ t F i M.
    let a = c.args.store.now in
    let n = c.args.number in
    let s = c.reserve_at.new.store in
    let v = three-is a t i n c.args.rank F c.args.added.now M c.get.result c.value_at.result c.get-2.result c.unwrap-before.result c.unwrap-text.result c.unwrap-here.result c.unwrap-before.ensures c.unwrap-text.ensures c.unwrap-here.ensures c.get.ensures
    c.value_at.ensures c.get-2.ensures in
    let texts = c.set.ensures.texts ∙ ap (slice_set s.texts.texts (c.args.rank - 1)) (c.in_ok-value.ensures ∙ v) in
    let one = valued a t i n c.args.rank F c.args.added.now M in
    let u = valued-three a t i n c.args.rank F c.args.added.now M s (unswept s t (c.reserve_at.ensures.store t i)) c.set.new.self texts in
    subst (IsStoreFor c.sweep.new.store) (comes-to-edited a t i n c.args.rank F c.args.added.now M)
    (c.sweep.ensures.store (placed one (Delete n)) (c.take_out.ensures.store one u (extent-is c.text_extent.result c.text_extent.ensures (here-extent a t i n c.args.rank F c.args.added.now M)) (delete-leaves a t i n c.args.rank F c.args.added.now M)))

pub returns-clause-moves : goal.returns-clause-moves
returns-clause-moves g c =
    let gone = first_keys c.args.spot.now.levels.items in
    let K : List KeyedRule = c.sweep.new.store.grammar.rules in
    let moves = moves-swept node_weight gone c.args.number c.reserve_at.new.store.grammar.rules c.take_out.new.store.grammar.rules K c.sweep.ensures.value c.take_out.ensures.moves c.sweep.ensures.before in
    subst (λ (R : List KeyedRule). MovesBefore node_weight gone c.args.number R K) c.reserve_at.ensures.rules moves
