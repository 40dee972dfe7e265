-- The extent of a spot's node.
use Rattle.std.proofs.Common.{◌≡◌, ℕ, ◌+◌, ◌-◌, ◌<◌, ◌≤◌, List, length, take, ap, sym, ◌∙◌, arith, Some}
use Rattle.std.specs.Prelude.{option_map}
use Rattle.std.proofs.lemmas.Option.{same_Some}
use Rattle.plain_tree.specs.declared.kind.Kind.{Kind}
use Rattle.plain_tree.specs.Lawful.{IsDocument}
use Rattle.plain_tree.specs.Numbers.{nodes, texts, values_of}
use Rattle.plain_tree.specs.Siblings.{from_node}
use Rattle.plain_tree.specs.Tree.{Tree, Trees, none, more, node_count}
use Rattle.plain_tree.proofs.Changing.{some-node}
use Rattle.slt_grammar.specs.Coding.{Codes}
use Rattle.slt_grammar.specs.Grammars.{value}
use Rattle.slt_grammar.specs.Keyed.{KeyedRule, rules_of}
use Rattle.preorder_address.specs.Spots.{IsSpot}
use Rattle.preorder_address.specs.TreeNumbers.{extent_at, text_rank_at}
use Rattle.preorder_address.specs.declared.spot.Spot.{Spot}
use Rattle.tree_updates.specs.Extents.{IsExtentOf}
use Rattle.tree_updates.specs.declared.node_extent.Extent.{Extent}
use Rattle.tree_updates.proofs.CopiedEdits.{first-is}
use Rattle.tree_updates.proofs.NodeExtents.{extent-fits, extent-low, extent-texts, spot-low, texts-before}
use Rattle.tree_updates.proofs.Numbers.{at, in-tree}

-- node n, with so many nodes below it
pub record IsMeasured (t : Tree) (n below : ℕ) : Type 0 where
  pub low : n < node_count t
  pub here : Tree
  pub behind : Trees
  pub from_is : from_node n (more t none) ≡ more here behind
  pub many : below + 1 ≡ node_count here
  pub within : n + (below + 1) ≤ node_count t

pub measured : (t : Tree) (n below : ℕ) → IsDocument t → n < node_count t → Some below ≡ extent_at t n → IsMeasured t n below
measured t n below d low e =
    let A = at t d.lawful n low in
    let b : below ≡ node_count A.here - 1 = same_Some below (node_count A.here - 1) (e ∙ ap (option_map (λ s. node_count s - 1)) (in-tree t d.lawful n low)) in
    let c : below + 1 ≡ node_count A.here = omega (arith, b, some-node A.here) in
    record { low = low; here = A.here; behind = A.behind; from_is = A.from_is; many = c; within = omega (arith, c, extent-fits t n low A.here A.behind A.from_is) }

-- of a spot
pub spot-measured : (names : List (Kind × List ℕ)) (G : List KeyedRule) (t : Tree) (n below : ℕ) (s : Spot) → IsDocument t → Codes names (more t none) (value (rules_of G)) → IsSpot names G n s → Some below ≡ extent_at t n → IsMeasured t n below
spot-measured names G t n below s d c S e = measured t n below d (spot-low names G t n s c S) e

-- how many nodes are below the node with an extent
pub below-told : (t : Tree) → IsDocument t → (n : ℕ) (e : Extent) → IsExtentOf t n e → Some (e.nodes - 1) ≡ extent_at t n
below-told t d n e x =
    let low = extent-low t n e x in
    let A = at t d.lawful n low in
    let same : x.here ≡ A.here = first-is x.here A.here x.behind A.behind (sym x.from_is ∙ A.from_is) in
    ap (λ (i : ℕ). Some i) (omega (arith, x.nodes, ap node_count same)) ∙ sym (ap (option_map (λ s. node_count s - 1)) (in-tree t d.lawful n low))

-- its texts are those between the ranks
pub texts-between : (t : Tree) (n below rank end : ℕ) (m : IsMeasured t n below) → Some rank ≡ text_rank_at t n → end ≡ length (values_of (take (n + (below + 1)) (nodes t))) → end ≡ rank + length (texts m.here)
texts-between t n below rank end m r e = extent-texts t n m.low m.here m.behind m.from_is rank end (texts-before t n rank r) (e ∙ ap (λ (i : ℕ). length (values_of (take (n + i) (nodes t)))) m.many)

-- so that is its extent
pub extent-between : (t : Tree) (n below rank end : ℕ) (m : IsMeasured t n below) → Some rank ≡ text_rank_at t n → end ≡ length (values_of (take (n + (below + 1)) (nodes t))) → (x : Extent) → x.nodes ≡ below + 1 → x.rank ≡ rank → x.texts ≡ end - rank
    → IsExtentOf t n x
extent-between t n below rank end m r e x nodes-are rank-is texts-are = record {
  here = m.here;
  behind = m.behind;
  from_is = m.from_is;
  nodes = nodes-are ∙ m.many;
  rank = sym r ∙ ap (λ (i : ℕ). Some i) (sym rank-is);
  texts_are = omega (arith, texts-are, texts-between t n below rank end m r e);
}
