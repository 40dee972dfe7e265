use Rattle.std.proofs.Common.{◌≡◌, ◌++◌, ◌-◌, ℕ, List, Some, refl, sym, ap, ◌∙◌, subst, arith}
use Rattle.std.specs.Prelude.{slice_set}
use Rattle.std.proofs.lemmas.Option.{slice_get_within}
use Rattle.plain_tree.specs.Allowed.{IsAllowed}
use Rattle.plain_tree.specs.declared.edit.Edit.TheVariants.{Delete}
use Rattle.plain_tree.specs.Edits.{merged, placed}
use Rattle.plain_tree.specs.Tree.{Tree}
use Rattle.slt_grammar.specs.Grammars.{size}
use Rattle.slt_grammar.specs.Keyed.{KeyedRule, rules_of}
use Rattle.slt_grammar.specs.Ranks.{greatest_rank}
use Rattle.text_list.specs.RoomyTexts.{RoomyTexts}
use Rattle.plain_tree.specs.NodePairs.{Pair}
use Rattle.preorder_address.specs.Marks.{AreMarks, MarksFirst}
use Rattle.preorder_address.specs.Spots.{IsSpot}
use Rattle.preorder_address.specs.TreeNumbers.{text_rank_at}
use Rattle.tree_updates.specs.Extents.{IsExtentOf, IsUnsweptFor, StandsBetween}
use Rattle.tree_updates.specs.Stores.{IsStoreFor}
use Rattle.tree_updates.specs.Ways.{HasNode}
use Rattle.tree_updates.specs.declared.node_extent.Extent.{Extent}
use Rattle.tree_updates.specs.declared.store.Store.{Store}
use Rattle.tree_updates.proofs.BetweenStores.{joined-store, store-steps, text-there, thrice, tripled}
use Rattle.tree_updates.proofs.BetweenTexts.{AreSteps, valued_left, without_right}
use Rattle.tree_updates.proofs.Fronts.{cut-stay}
use Rattle.tree_updates.proofs.NodeExtents.{extent-is}
use Rattle.tree_updates.proofs.NodeWays.{node-low, own-node, some-rules}
use Rattle.tree_updates.proofs.deleting_between.delete_between.Goals as goal

-- the document once the left text has the value of both, and then without the right one
module _ (s : Store) (t : Tree) (i : IsStoreFor s t) (n m : ℕ) (b : StandsBetween t n m) (allowed : IsAllowed t (Delete n)) where
  abbrev valued : Tree
  valued = valued_left t (n - 1) (b.before ++ b.after)

  abbrev two : Tree
  two = without_right t (n - 1) m (b.before ++ b.after)

  steps : AreSteps (rules_of s.grammar.rules) s.names s.texts.texts t (n - 1) n m (b.before ++ b.after)
  steps = store-steps s t i n m b allowed

  -- the right text's extent
  right : (rank : ℕ) → Some rank ≡ text_rank_at t m → (x : Extent) → x ≡ record { nodes = 1; rank = rank; texts = 1 } → IsExtentOf (valued_left t (n - 1) (b.before ++ b.after)) m x
  right rank told x is = extent-is x is (steps.right_extent rank told)

  joined : (rank : ℕ) → Some rank ≡ text_rank_at t (n - 1) → (value : List ℕ) → value ≡ b.before ++ b.after → (T : RoomyTexts) → T.texts ≡ slice_set s.texts.texts rank value
      → IsUnsweptFor (record { grammar = s.grammar; names = s.names; texts = T; counts = s.counts; index = s.index; marks = s.marks }) (valued_left t (n - 1) (b.before ++ b.after))
  joined rank ranked value is T set =
      joined-store s t i (n - 1) n m (b.before ++ b.after) steps rank ranked (record { grammar = s.grammar; names = s.names; texts = T; counts = s.counts; index = s.index; marks = s.marks }) refl refl refl refl (set ∙ ap (slice_set s.texts.texts rank) is)

pub join_texts-requires : goal.join_texts-requires
join_texts-requires g c = let r = c.requires.store in record { store = (r.0, c.args.number, r.1, r.4) }

pub reserve_twice-requires : goal.reserve_twice-requires
reserve_twice-requires g c = let r = c.requires.store in record { spot = (c.args.store.now.names, c.args.beside.now.number, r.4.right) }

pub set-requires-clause-place : goal.set-requires-clause-place
set-requires-clause-place g c =
    let r = c.requires.store in
    let s = c.reserve_twice.new.store in
    let j = c.in_ok-joined.joined in
    let b = r.4.between in
    slice_get_within s.texts.texts j.rank b.before (text-there s r.0 (c.reserve_twice.ensures.store r.0 r.1) (c.args.number - 1) j.rank b.before _ b.from_is (c.in_ok-joined.ensures.rank r.0 c.args.number r.1 r.4))

pub take_out-requires-clause-store : goal.take_out-requires-clause-store
take_out-requires-clause-store g c =
    let r = c.requires.store in
    let a = c.args.store.now in
    let s = c.reserve_twice.new.store in
    let j = c.in_ok-joined.joined in
    let n : ℕ = c.args.number in
    let m : ℕ = c.args.beside.now.number in
    let b = r.4.between in
    let i = c.reserve_twice.ensures.store r.0 r.1 in
    let S = steps s r.0 i n m b r.2 in
    let u = joined s r.0 i n m b r.2 j.rank (c.in_ok-joined.ensures.rank r.0 n r.1 r.4) j.value (c.in_ok-joined.ensures.value r.0 n r.4 r.1) c.set.new.self c.set.ensures.texts in
    let x = right s r.0 i n m b r.2 c.text_rank.result (c.text_rank.ensures a.names a.grammar.rules m r.0 r.4.right r.1.stand.code) c.text_extent-right.result c.text_extent-right.ensures in
    (valued s r.0 i n m b r.2, u, x, S.right_leaves)

pub take_out-requires-clause-spot : goal.take_out-requires-clause-spot
take_out-requires-clause-spot g c =
    let r = c.requires.store in
    let a = c.args.store.now in
    (a.names, subst (λ (R : List KeyedRule). IsSpot a.names R c.args.beside.now.number c.args.beside.now.right) (sym c.reserve_twice.ensures.rules) r.4.right)

pub take_out-requires-clause-room : goal.take_out-requires-clause-room
take_out-requires-clause-room g c =
    let r = c.requires.store in
    let s = c.reserve_twice.new.store in
    let i = c.reserve_twice.ensures.store r.0 r.1 in
    let S = store-steps s r.0 i c.args.number c.args.beside.now.number r.4.between r.2 in
    omega (arith, c.in_ok-reserve_twice.ensures.nodes s.grammar c.args.number (own-node s.names s.grammar c.limit-before.ensures.keyed r.0 c.args.number i.stand.code S.low))

pub take_out-requires-clause-links : goal.take_out-requires-clause-links
take_out-requires-clause-links g c =
    let r = c.requires.store in
    let s = c.reserve_twice.new.store in
    let i = c.reserve_twice.ensures.store r.0 r.1 in
    let S = store-steps s r.0 i c.args.number c.args.beside.now.number r.4.between r.2 in
    omega (arith, c.in_ok-reserve_twice.ensures.links s.grammar c.args.number (own-node s.names s.grammar c.limit-before.ensures.keyed r.0 c.args.number i.stand.code S.low))

pub take_out_located-requires-clause-store : goal.take_out_located-requires-clause-store
take_out_located-requires-clause-store g c =
    let r = c.requires.store in
    let a = c.args.store.now in
    let s = c.reserve_twice.new.store in
    let j = c.in_ok-joined.joined in
    let n : ℕ = c.args.number in
    let m : ℕ = c.args.beside.now.number in
    let b = r.4.between in
    let i = c.reserve_twice.ensures.store r.0 r.1 in
    let S = steps s r.0 i n m b r.2 in
    let u = joined s r.0 i n m b r.2 j.rank (c.in_ok-joined.ensures.rank r.0 n r.1 r.4) j.value (c.in_ok-joined.ensures.value r.0 n r.4 r.1) c.set.new.self c.set.ensures.texts in
    let x = right s r.0 i n m b r.2 c.text_rank.result (c.text_rank.ensures a.names a.grammar.rules m r.0 r.4.right r.1.stand.code) c.text_extent-right.result c.text_extent-right.ensures in
    (two s r.0 i n m b r.2, c.take_out.ensures.store (valued s r.0 i n m b r.2) u x S.right_leaves, S.node_extent c.args.extent r.3, S.node_leaves)

pub take_out_located-requires-clause-room : goal.take_out_located-requires-clause-room
take_out_located-requires-clause-room g c =
    let r = c.requires.store in
    let a = c.args.store.now in
    let s = c.reserve_twice.new.store in
    let j = c.in_ok-joined.joined in
    let n : ℕ = c.args.number in
    let m : ℕ = c.args.beside.now.number in
    let b = r.4.between in
    let i = c.reserve_twice.ensures.store r.0 r.1 in
    let S = steps s r.0 i n m b r.2 in
    let u = joined s r.0 i n m b r.2 j.rank (c.in_ok-joined.ensures.rank r.0 n r.1 r.4) j.value (c.in_ok-joined.ensures.value r.0 n r.4 r.1) c.set.new.self c.set.ensures.texts in
    let x = right s r.0 i n m b r.2 c.text_rank.result (c.text_rank.ensures a.names a.grammar.rules m r.0 r.4.right r.1.stand.code) c.text_extent-right.result c.text_extent-right.ensures in
    let k = c.take_out.new.store in
    let v = c.take_out.ensures.store (valued s r.0 i n m b r.2) u x S.right_leaves in
    let N : HasNode s.grammar.rules k.grammar n = record { keyed = c.limit-between.ensures.keyed; differ = c.take_out.ensures.others; low = node-low k.names k.grammar.rules (two s r.0 i n m b r.2) n v.stand.code S.node_low } in
    omega (arith, c.in_ok-reserve_twice.ensures.nodes k.grammar n N, c.take_out.ensures.spare_nodes)

pub take_out_located-requires-clause-links : goal.take_out_located-requires-clause-links
take_out_located-requires-clause-links g c =
    let r = c.requires.store in
    let a = c.args.store.now in
    let s = c.reserve_twice.new.store in
    let j = c.in_ok-joined.joined in
    let n : ℕ = c.args.number in
    let m : ℕ = c.args.beside.now.number in
    let b = r.4.between in
    let i = c.reserve_twice.ensures.store r.0 r.1 in
    let S = steps s r.0 i n m b r.2 in
    let u = joined s r.0 i n m b r.2 j.rank (c.in_ok-joined.ensures.rank r.0 n r.1 r.4) j.value (c.in_ok-joined.ensures.value r.0 n r.4 r.1) c.set.new.self c.set.ensures.texts in
    let x = right s r.0 i n m b r.2 c.text_rank.result (c.text_rank.ensures a.names a.grammar.rules m r.0 r.4.right r.1.stand.code) c.text_extent-right.result c.text_extent-right.ensures in
    let k = c.take_out.new.store in
    let v = c.take_out.ensures.store (valued s r.0 i n m b r.2) u x S.right_leaves in
    let N : HasNode s.grammar.rules k.grammar n = record { keyed = c.limit-between.ensures.keyed; differ = c.take_out.ensures.others; low = node-low k.names k.grammar.rules (two s r.0 i n m b r.2) n v.stand.code S.node_low } in
    omega (arith, c.in_ok-reserve_twice.ensures.links k.grammar n N, c.take_out.ensures.links)

pub sweep-requires : goal.sweep-requires
sweep-requires g c =
    let r = c.requires.store in
    let a = c.args.store.now in
    let s = c.reserve_twice.new.store in
    let j = c.in_ok-joined.joined in
    let n : ℕ = c.args.number in
    let m : ℕ = c.args.beside.now.number in
    let b = r.4.between in
    let i = c.reserve_twice.ensures.store r.0 r.1 in
    let S = steps s r.0 i n m b r.2 in
    let u = joined s r.0 i n m b r.2 j.rank (c.in_ok-joined.ensures.rank r.0 n r.1 r.4) j.value (c.in_ok-joined.ensures.value r.0 n r.4 r.1) c.set.new.self c.set.ensures.texts in
    let x = right s r.0 i n m b r.2 c.text_rank.result (c.text_rank.ensures a.names a.grammar.rules m r.0 r.4.right r.1.stand.code) c.text_extent-right.result c.text_extent-right.ensures in
    let T : Tree = two s r.0 i n m b r.2 in
    let v = c.take_out.ensures.store (valued s r.0 i n m b r.2) u x S.right_leaves in
    record { store = (placed T (Delete n), c.take_out_located.ensures.store T v (S.node_extent c.args.extent r.3) S.node_leaves) }

pub returns-clause-applies : goal.returns-clause-applies
returns-clause-applies g c =
    λ t o allowed ext B.
    let a = c.args.store.now in
    let s = c.reserve_twice.new.store in
    let j = c.in_ok-joined.joined in
    let n : ℕ = c.args.number in
    let m : ℕ = c.args.beside.now.number in
    let b = B.between in
    let i = c.reserve_twice.ensures.store t o in
    let S = steps s t i n m b allowed in
    let u = joined s t i n m b allowed j.rank (c.in_ok-joined.ensures.rank t n o B) j.value (c.in_ok-joined.ensures.value t n B o) c.set.new.self c.set.ensures.texts in
    let x = right s t i n m b allowed c.text_rank.result (c.text_rank.ensures a.names a.grammar.rules m t B.right o.stand.code) c.text_extent-right.result c.text_extent-right.ensures in
    let T : Tree = two s t i n m b allowed in
    let v = c.take_out.ensures.store (valued s t i n m b allowed) u x S.right_leaves in
    let z = c.take_out_located.ensures.store T v (S.node_extent c.args.extent ext) S.node_leaves in
    let e = c.reserve_twice.ensures.rules in
    let G : List KeyedRule = s.grammar.rules in
    let tripled-size = thrice G c.take_out.new.store.grammar.rules c.take_out_located.new.store.grammar.rules (some-rules G c.limit-before.ensures.keyed.grammar) c.take_out.ensures.others c.take_out.ensures.most c.take_out_located.ensures.most in
    record {
      allowed = allowed;
      store = subst (IsStoreFor c.sweep.new.store) (sym S.edited_is) (c.sweep.ensures.store (placed T (Delete n)) z);
      names = c.sweep.ensures.names ∙ c.take_out_located.ensures.names ∙ c.take_out.ensures.names ∙ c.reserve_twice.ensures.names;
      ranks = omega (arith, c.sweep.ensures.ranks, c.take_out_located.ensures.ranks, c.take_out.ensures.ranks, ap (λ (R : List KeyedRule). greatest_rank (rules_of R)) e);
      size = tripled (size (rules_of c.args.store.now.grammar.rules)) (size (rules_of c.sweep.new.store.grammar.rules)) (merged t (Delete n)) S.one_merged
          (omega (arith, tripled-size, c.sweep.ensures.size, ap (λ (R : List KeyedRule). size (rules_of R)) e));
    }

-- the marks before the right text's are marks without it
pub take_out_located-requires-clause-marks : goal.take_out_located-requires-clause-marks
take_out_located-requires-clause-marks g c =
    let a = c.args.store.now in
    let s = c.reserve_twice.new.store in
    let e = sym c.reserve_twice.ensures.rules in
    let right = c.args.beside.now.right in
    let own = subst (λ (R : List KeyedRule). MarksFirst a.names R right.levels.items right.first) e c.requires.first in
    let old = subst (λ (R : List KeyedRule). AreMarks a.names R c.args.marks.now) e c.requires.marks in
    let new = cut-stay a.names s.grammar right.levels.items right.first c.first.result c.args.marks.now c.cut.new.self c.cut.ensures c.limit-before.ensures.keyed old c.first.ensures own c.take_out.new.store.grammar.rules c.take_out.ensures.front in
    subst (λ (ns : List Pair). AreMarks ns c.take_out.new.store.grammar.rules c.cut.new.self) (sym (c.take_out.ensures.names ∙ c.reserve_twice.ensures.names)) new

pub returns-clause-marks : goal.returns-clause-marks
returns-clause-marks g c =
    let new = subst (λ (ns : List Pair). AreMarks ns c.take_out_located.new.store.grammar.rules c.take_out_located.new.marks) (c.take_out.ensures.names ∙ c.reserve_twice.ensures.names) c.take_out_located.ensures.marks in
    c.sweep.ensures.marks c.args.store.now.names c.take_out_located.new.marks new

pub returns-in_err-reserve_twice-clause-marks : goal.returns-in_err-reserve_twice-clause-marks
returns-in_err-reserve_twice-clause-marks g c = subst (λ (R : List KeyedRule). AreMarks c.args.store.now.names R c.args.marks.now) (sym c.reserve_twice.ensures.rules) c.requires.marks
