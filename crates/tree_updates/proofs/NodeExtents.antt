-- The extent of a node, and what is left where it goes.
use Rattle.std.proofs.Common.{◌≡◌, ℕ, ◌+◌, ◌*◌, ◌<◌, ◌≤◌, List, [], ◌++◌, length, take, drop, refl, ap, sym, ◌∙◌, subst, arith, Option, Some, None, sum_by, append-nil, length-append}
use Rattle.std.specs.Prelude.{slice_get, option_map}
use Rattle.std.specs.List.{remove_range}
use Rattle.std.proofs.lemmas.List.{take_all, length-take-le, length-drop}
use Rattle.std.proofs.lemmas.Option.{same_Some, slice_get_within}
use Rattle.plain_tree.specs.declared.kind.Kind.{Kind}
use Rattle.plain_tree.specs.declared.edit.Edit.TheVariants.{Delete}
use Rattle.plain_tree.specs.Edits.{made, placed}
use Rattle.plain_tree.specs.Numbers.{nodes, texts, texts_all, values_of}
use Rattle.plain_tree.specs.Siblings.{from_node}
use Rattle.plain_tree.specs.Tree.{Tree, node, Trees, none, more, node_count, node_count_all}
use Rattle.plain_tree.proofs.Changing.{some-from}
use Rattle.plain_tree.proofs.EditCounts.{count-deleted}
use Rattle.plain_tree.proofs.LawfulDocuments.{BecomesDocument}
use Rattle.plain_tree.proofs.NodeCounts.{length-nodes}
use Rattle.slt_grammar.specs.Bodies.{params}
use Rattle.slt_grammar.specs.Coding.{Codes}
use Rattle.slt_grammar.specs.Grammars.{IsGrammar, value}
use Rattle.slt_grammar.specs.Keyed.{KeyedRule, rules_of}
use Rattle.slt_grammar.specs.Segments.{listed}
use Rattle.slt_grammar.specs.Standing.{StandsFor}
use Rattle.slt_grammar.specs.Terms.{Term, holes_of}
use Rattle.slt_grammar.specs.declared.rules.Rule.{Rule}
use Rattle.slt_grammar.proofs.Standing.{own, texts-one, texts_all-more}
use Rattle.segment_counts.specs.Changes.{HasMore, start_weights}
use Rattle.segment_counts.specs.Counting.{AreCounts, CountTable}
use Rattle.segment_counts.specs.Weights.{text_weight}
use Rattle.segment_counts.specs.declared.counts.Measure.TheVariants.{Nodes, Texts, All}
use Rattle.segment_counts.proofs.Coded.{nodes-coded}
use Rattle.segment_counts.proofs.Telling.{total-told}
use Rattle.preorder_address.specs.Spots.{IsSpot}
use Rattle.preorder_address.specs.TreeNumbers.{text_rank_at}
use Rattle.preorder_address.specs.declared.spot.Spot.{Spot}
use Rattle.preorder_address.proofs.TreePlaces.{all-coded, texts-coded}
use Rattle.preorder_address.proofs.TreeSpots.{spot-node}
use Rattle.tree_updates.specs.Extents.{IsExtentOf, LeavesDocument}
use Rattle.tree_updates.specs.Numbered.{LosesNode}
use Rattle.tree_updates.specs.declared.node_extent.Extent.{Extent}
use Rattle.tree_updates.proofs.CodeChanges.{params-listed}
use Rattle.tree_updates.proofs.Ranks.{rank-behind, rank-told}
use Rattle.tree_updates.proofs.Stands.{stands-deleted}
use Rattle.tree_updates.proofs.StoreSteps.{low-at}
use Rattle.tree_updates.proofs.Texts.{rank_in, texts-around}

mapped : (o : Option Tree) (x rank : ℕ) → Some rank ≡ option_map (λ s. x) o → rank ≡ x
mapped None x rank e = cc
mapped (Some s) x rank e = same_Some rank x e

-- what the rank of a node is
pub texts-before : (t : Tree) (n rank : ℕ) → Some rank ≡ text_rank_at t n → rank ≡ length (values_of (take n (nodes t)))
texts-before t n rank e = mapped (slice_get (nodes t) n) (length (values_of (take n (nodes t)))) rank e

-- before the end all texts come
pub all-texts-before : (names : List (Kind × List ℕ)) (G : List Rule) (t : Tree) (n total : ℕ) → Codes names (more t none) (value G) → node_count t ≤ n → total ≡ sum_by (text_weight names) (listed (value G) []) → total ≡ length (values_of (take n (nodes t)))
all-texts-before names G t n total c h e =
    let all : take n (nodes t) ≡ nodes t = take_all n (nodes t) (omega (arith, h, length-nodes t)) in
    omega (arith, e, texts-coded names (more t none) (value G) c [], ap length (texts-one t), ap (λ xs. length (values_of xs)) all)

-- a spot is one of a node
pub spot-low : (names : List (Kind × List ℕ)) (G : List KeyedRule) (t : Tree) (n : ℕ) (s : Spot) → Codes names (more t none) (value (rules_of G)) → IsSpot names G n s → n < node_count t
spot-low names G t n s c S =
    let x = spot-node names G t c n s.levels.items s.symbol s.before S in
    omega (arith, slice_get_within (nodes t) n (node x.place.kind x.place.name x.place.value x.place.kids) x.node_is, length-nodes t)

-- what has an extent is a node
pub extent-low : (t : Tree) (n : ℕ) (e : Extent) → IsExtentOf t n e → n < node_count t
extent-low t n e x = low-there x.here x.from_is
  where
    low-there : (s : Tree) → from_node n (more t none) ≡ more s x.behind → n < node_count t
    low-there (node k m v ks) f = let h = low-at n (more t none) k m v ks x.behind f in omega (arith, h)

-- equal extents are those of one node
pub extent-is : {t : Tree} {n : ℕ} {e : Extent} (x : Extent) → x ≡ e → IsExtentOf t n e → IsExtentOf t n x
extent-is {t} {n} x same h = subst (IsExtentOf t n) (sym same) h

its-texts : (k : Kind) (m v : List ℕ) (ks : Trees) → length (texts (node k m v ks)) ≡ length (own k v ++ texts_all ks)
its-texts k m v ks = ap length (sym (texts-one (node k m v ks)) ∙ texts_all-more k m v ks none ∙ ap (λ xs. own k v ++ xs) (append-nil (texts_all ks)))

pub rank-is : (t : Tree) (n : ℕ) → rank_in n (more t none) ≡ length (values_of (take n (nodes t)))
rank-is t n = ap (λ xs. length (values_of (take n xs))) (append-nil (nodes t))

module _ (t : Tree) (n : ℕ) (low : n < node_count t) where
  low-all : n < node_count_all (more t none)
  low-all = omega arith

  -- no node of the extent is behind the last of the document
  pub extent-fits : (here : Tree) (behind : Trees) → from_node n (more t none) ≡ more here behind → n + node_count here ≤ node_count t
  extent-fits here behind e = omega (arith, some-from n (more t none) low-all, ap node_count_all e)

  -- its texts are those between two ranks
  pub extent-texts : (here : Tree) (behind : Trees) → from_node n (more t none) ≡ more here behind → (rank end : ℕ) → rank ≡ length (values_of (take n (nodes t))) → end ≡ length (values_of (take (n + node_count here) (nodes t)))
      → end ≡ rank + length (texts here)
  extent-texts (node k m v ks) behind e rank end r f =
      omega (arith, r, f, rank-is t n, rank-is t (n + (node_count_all ks + 1)), rank-behind n (more t none) low-all k m v ks behind e, its-texts k m v ks)

  -- and are texts of the document
  pub texts-fit : (here : Tree) (behind : Trees) → from_node n (more t none) ≡ more here behind → rank_in n (more t none) + length (texts here) ≤ length (texts t)
  texts-fit (node k m v ks) behind e =
      let A = texts-around n (more t none) low-all in
      let X : List (List ℕ) = texts_all (from_node n (more t none)) in
      omega (
        arith,
        A.rank,
        ap length A.were,
        ap length (texts-one t),
        length-append A.front (X ++ A.back),
        length-append X A.back,
        ap length (ap texts_all e ∙ texts_all-more k m v ks behind),
        length-append (own k v) (texts_all ks ++ texts_all behind),
        length-append (texts_all ks) (texts_all behind),
        length-append (own k v) (texts_all ks),
        its-texts k m v ks,
      )

-- a code has no holes
closed : (names : List (Kind × List ℕ)) (ts : Trees) (term : Term) → Codes names ts term → length (holes_of term) ≡ 0
closed names none term c = ap (λ x. length (holes_of x)) c
closed names (more (node k m v ks) ts) term c = ap (λ x. length (holes_of x)) c.6 ∙ omega (arith, length-append (holes_of c.1) (holes_of c.2), closed names ks c.1 c.4, closed names ts c.2 c.5)

pub code-closed : (names : List (Kind × List ℕ)) (ts : Trees) (term : Term) → Codes names ts term → params (listed term []) ≡ 0
code-closed names ts term c = omega (arith, params-listed term [], closed names ts term c)

module _ (G H : List Rule) (names : List (Kind × List ℕ)) (values : List (List ℕ)) (t : Tree) (s : StandsFor G names values t) (n : ℕ) (low : n < node_count t) (e : Extent) (x : IsExtentOf t n e)
    (loses : LosesNode G H n) (leaves : LeavesDocument t (Delete n)) where
  becomes : BecomesDocument (made more (Delete n) (more t none))
  becomes = record { tree = placed t (Delete n); is = leaves.alone; document = leaves.document }

  rank-here : rank_in n (more t none) ≡ e.rank
  rank-here = same_Some (rank_in n (more t none)) e.rank (sym (rank-told t n low) ∙ x.rank)

  -- rules without the node, and the other texts, stand for what is left
  pub left-stands : StandsFor H names (remove_range values e.rank (e.rank + e.texts)) (placed t (Delete n))
  left-stands = by_node x.here x.from_is x.texts_are
    where
      by_node : (r : Tree) → from_node n (more t none) ≡ more r x.behind → e.texts ≡ length (texts r) → StandsFor H names (remove_range values e.rank (e.rank + e.texts)) (placed t (Delete n))
      by_node (node k m v ks) here c =
          let d = loses.differ in
          let left = stands-deleted G H names values t s n loses.symbol loses.left loses.right loses.right d k m v ks x.behind here refl becomes in
          let z : e.texts ≡ length (own k v ++ texts_all ks) = c ∙ its-texts k m v ks in
          subst (λ (i : ℕ). StandsFor H names (remove_range values e.rank (e.rank + i)) (placed t (Delete n))) (sym z)
          (subst (λ (i : ℕ). StandsFor H names (remove_range values i (i + length (own k v ++ texts_all ks))) (placed t (Delete n))) rank-here left)

  pub left-nodes : node_count (placed t (Delete n)) + e.nodes ≡ node_count t
  left-nodes = by_node x.here x.from_is x.nodes
    where
      by_node : (r : Tree) → from_node n (more t none) ≡ more r x.behind → e.nodes ≡ node_count r → node_count (placed t (Delete n)) + e.nodes ≡ node_count t
      by_node (node k m v ks) here c = omega (arith, c, count-deleted n (more t none) (low-all t n low) k m v ks x.behind here, ap node_count_all leaves.alone)

  pub fits : e.rank + e.texts ≤ length values
  fits = omega (arith, rank-here, x.texts_are, texts-fit t n low x.here x.behind x.from_is, ap length s.texts)

  pub left-less : HasMore names (value H) (value G) e.nodes e.texts
  left-less = record {
    closed = code-closed names (more (placed t (Delete n)) none) (value H) left-stands.code;
    closed_too = code-closed names (more t none) (value G) s.code;
    nodes_are = omega (arith, nodes-coded names (more t none) (value G) s.code [], nodes-coded names (more (placed t (Delete n)) none) (value H) left-stands.code [], left-nodes);
    texts_are = omega (
      arith,
      texts-coded names (more t none) (value G) s.code [],
      texts-coded names (more (placed t (Delete n)) none) (value H) left-stands.code [],
      ap length (texts-one t),
      ap length (texts-one (placed t (Delete n))),
      ap length s.texts,
      ap length left-stands.texts,
      length-removed,
    );
  }
    where
      length-removed : length (remove_range values e.rank (e.rank + e.texts)) + e.texts ≡ length values
      length-removed = omega (arith, fits, length-append (take e.rank values) (drop (e.rank + e.texts) values), length-take-le e.rank values (omega (arith, fits)), length-drop (e.rank + e.texts) values)

  -- the counts of the start have room for what goes
  module _ (C : CountTable) (a : AreCounts names G C) (g : IsGrammar G) where
    pub nodes-go : e.nodes ≤ (start_weights C).nodes
    nodes-go = omega (arith, left-less.nodes_are, total-told names G C a g Nodes)

    pub texts-go : e.texts ≤ (start_weights C).texts
    texts-go = omega (arith, left-less.texts_are, total-told names G C a g Texts)

    pub all-go : 2 * e.nodes ≤ (start_weights C).all
    all-go = omega (arith, left-less.nodes_are, nodes-coded names (more t none) (value G) s.code [], all-coded names (more t none) (value G) s.code [], total-told names G C a g All)
