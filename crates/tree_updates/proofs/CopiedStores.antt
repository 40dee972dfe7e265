-- Stores in whose document a node comes once more before itself.
use Rattle.std.proofs.Common.{◌≡◌, ℕ, ◌+◌, ◌-◌, ◌*◌, ◌<◌, ◌≤◌, ◌^◌, List, [], ◌∷◌, ◌++◌, length, get_or, take, drop, ap, sym, ◌∙◌, subst, arith, append_assoc, append-nil}
use Rattle.std.specs.Prelude.{slice_range}
use Rattle.std.specs.List.{insert_slice}
use Rattle.std.proofs.Math.Seq.{take-append_seam, drop-append_seam}
use Rattle.std.proofs.lemmas.Option.{same_Some}
use Rattle.plain_tree.specs.declared.edit.Edit.TheVariants.{Copy, Insert}
use Rattle.plain_tree.specs.Edits.{placed}
use Rattle.plain_tree.specs.NodePairs.{Pair}
use Rattle.plain_tree.specs.Numbers.{texts, texts_all}
use Rattle.plain_tree.specs.Tree.{Tree, node, Trees, none, more, trees, node_count, node_count_all}
use Rattle.slt_grammar.specs.Coding.{CodesTo}
use Rattle.slt_grammar.specs.Grammars.{IsGrammar, IsSwept, value}
use Rattle.slt_grammar.specs.Keyed.{KeyedRule, rules_of}
use Rattle.slt_grammar.specs.Standing.{StandsFor}
use Rattle.slt_grammar.specs.Terms.{Term, Hole}
use Rattle.slt_grammar.specs.declared.rules.Rule.{Rule}
use Rattle.slt_grammar.proofs.Standing.{own, texts-one, texts_all-more}
use Rattle.digram_index.specs.Linked.{IsIndexOf}
use Rattle.segment_counts.specs.Changes.{HasMore, start_weights}
use Rattle.segment_counts.specs.Counting.{AreCounts, CountTable, no_row, no_weights, weight_by}
use Rattle.segment_counts.specs.declared.counts.Weights.{Weights}
use Rattle.tree_updates.specs.Copies.{MayCopy}
use Rattle.tree_updates.specs.Fragments.{GetsBefore}
use Rattle.tree_updates.specs.Stores.{IsStoreFor}
use Rattle.tree_updates.specs.declared.node_extent.Extent.{Extent}
use Rattle.tree_updates.specs.declared.store.Store.{Store}
use Rattle.tree_updates.proofs.CopiedEdits.{leaves-same, placed-same}
use Rattle.tree_updates.proofs.GrownStores.{texts-few}
use Rattle.tree_updates.proofs.InsertedStores.{all-come, count-with, inserted-more, inserted-stands, nodes-come, start-texts}
use Rattle.tree_updates.proofs.NodeExtents.{texts-fit}
use Rattle.tree_updates.proofs.Ranks.{rank-told}
use Rattle.tree_updates.proofs.Texts.{rank_in, texts-around}

-- the texts of some siblings are those of the first and of the others
texts-first : (r : Tree) (us : Trees) → texts_all (more r us) ≡ texts r ++ texts_all us
texts-first (node k m v ks) us =
    texts_all-more k m v ks us ∙ sym (append_assoc (own k v) (texts_all ks) (texts_all us))
    ∙ ap (λ xs. xs ++ texts_all us) (sym (ap (λ xs. own k v ++ xs) (append-nil (texts_all ks))) ∙ sym (texts_all-more k m v ks none) ∙ texts-one (node k m v ks))

range-of : (front mid back : List (List ℕ)) (a k : ℕ) → length front ≡ a → length mid ≡ k → slice_range (front ++ (mid ++ back)) a (a + k) ≡ mid
range-of front mid back a k e f =
    let z : a + k - a ≡ length mid = omega (arith, f) in
    ap (λ (i : ℕ). take i (drop a (front ++ (mid ++ back)))) z
    ∙ ap (λ (i : ℕ). take (length mid) (drop i (front ++ (mid ++ back)))) (sym e)
    ∙ ap (take (length mid)) (drop-append_seam front (mid ++ back)) ∙ take-append_seam mid back

-- where rules, names and texts stand for a document
module _ (G : List Rule) (names : List Pair) (values : List (List ℕ)) (t : Tree) (s : StandsFor G names values t) (n : ℕ) (low : n < node_count t) (e : Extent) (M : MayCopy t n e) where
  abbrev pub here : Tree
  here = M.extent.here

  abbrev pub one : List Tree
  one = M.extent.here ∷ []

  rank-here : rank_in n (more t none) ≡ e.rank
  rank-here = same_Some (rank_in n (more t none)) e.rank (sym (rank-told t n low) ∙ M.extent.rank)

  same-tree : placed t (Copy n) ≡ placed t (Insert n (M.extent.here ∷ []))
  same-tree = placed-same t n low M.extent.here M.extent.behind M.extent.from_is

  its-texts : slice_range values e.rank (e.rank + e.texts) ≡ texts_all (trees (M.extent.here ∷ []))
  its-texts =
      let A = texts-around n (more t none) (omega (arith, low)) in
      let all : values ≡ A.front ++ (texts here ++ (texts_all M.extent.behind ++ A.back)) =
      s.texts ∙ sym (texts-one t) ∙ A.were ∙ ap (λ us. A.front ++ (texts_all us ++ A.back)) M.extent.from_is
      ∙ ap (λ xs. A.front ++ (xs ++ A.back)) (texts-first here M.extent.behind) ∙ ap (λ xs. A.front ++ xs) (append_assoc (texts here) (texts_all M.extent.behind) A.back) in
      ap (λ xs. slice_range xs e.rank (e.rank + e.texts)) all
      ∙ range-of A.front (texts here) (texts_all M.extent.behind ++ A.back) e.rank e.texts (A.rank ∙ rank-here) (sym M.extent.texts_are) ∙ sym (texts-one here)

  pub copied-fits : e.rank + e.texts ≤ length values
  copied-fits = omega (arith, rank-here, M.extent.texts_are, texts-fit t n low M.extent.here M.extent.behind M.extent.from_is, ap length s.texts)

  nodes-are : node_count_all (trees (M.extent.here ∷ [])) ≡ e.nodes
  nodes-are = omega (arith, M.extent.nodes)

  texts-are : length (texts_all (trees (M.extent.here ∷ []))) ≡ e.texts
  texts-are = ap length (texts-one here) ∙ sym M.extent.texts_are

  -- once the code of the node came before it
  module _ (H : List Rule) (front : Term) (codes : CodesTo names (Hole 0) (trees (M.extent.here ∷ [])) front) (gets : GetsBefore G H n front) where
    pub copied-stands : StandsFor H names (insert_slice values e.rank (slice_range values e.rank (e.rank + e.texts))) (placed t (Copy n))
    copied-stands =
        subst (λ u. StandsFor H names (insert_slice values e.rank (slice_range values e.rank (e.rank + e.texts))) u) (sym same-tree)
        (subst (λ xs. StandsFor H names (insert_slice values e.rank xs) (placed t (Insert n one))) (sym its-texts)
        (inserted-stands G H names values t s n e.rank one (leaves-same t n low here M.extent.behind M.extent.from_is M.leaves) (sym M.extent.rank) front codes gets))

    pub copied-more : HasMore names (value G) (value H) e.nodes e.texts
    copied-more =
        subst (λ (k : ℕ). HasMore names (value G) (value H) k e.texts) nodes-are
        (subst (λ (k : ℕ). HasMore names (value G) (value H) (node_count_all (trees one)) k) texts-are
        (inserted-more G H names values t s n e.rank one (leaves-same t n low here M.extent.behind M.extent.from_is M.leaves) (sym M.extent.rank) front codes gets))

    -- the counts of the start have room for what comes
    module _ (C : CountTable) (a : AreCounts names G C) (g : IsGrammar G) where
      small : node_count (placed t (Insert n (M.extent.here ∷ []))) < 2 ^ 63
      small = subst (λ u. node_count u < 2 ^ 63) same-tree M.small

      pub copied-nodes : (start_weights C).nodes + e.nodes < 2 ^ 64
      copied-nodes = omega (arith, nodes-are, nodes-come G H names values t s n e.rank one (leaves-same t n low here M.extent.behind M.extent.from_is M.leaves) (sym M.extent.rank) front codes gets C a g small)

      pub copied-all : (start_weights C).all + 2 * e.nodes < 2 ^ 64
      copied-all = omega (arith, nodes-are, all-come G H names values t s n e.rank one (leaves-same t n low here M.extent.behind M.extent.from_is M.leaves) (sym M.extent.rank) front codes gets C a g small)

      pub copied-texts : (start_weights C).texts + e.texts < 2 ^ 64
      copied-texts =
          omega (
            arith,
            start-texts G H names values t s n e.rank one (leaves-same t n low here M.extent.behind M.extent.from_is M.leaves) (sym M.extent.rank) front codes gets C a g small,
            count-with G H names values t s n e.rank one (leaves-same t n low here M.extent.behind M.extent.from_is M.leaves) (sym M.extent.rank) front codes gets,
            ap length s.texts,
            texts-few t,
            texts-few here,
            M.extent.texts_are,
            small,
          )

-- counts in a table with more room
pub roomy-counts : (names : List Pair) (G : List Rule) (C D : CountTable) → D.rules ≡ C.rules → length C.rows ≤ length D.rows → ((q : ℕ) → q < length C.rows → get_or D.rows q no_row ≡ get_or C.rows q no_row) → AreCounts names G C → AreCounts names G D
roomy-counts names G C D rules room kept a = record {
  rules = rules ∙ a.rules;
  room = omega (arith, room, a.room);
  numbers = record {
    each = λ m q i h. ap (λ (row : List Weights). weight_by m (get_or row i no_weights)) (kept q (omega (arith, h, a.room))) ∙ a.numbers.each m q i h;
    small = a.numbers.small;
  };
}

-- a store with more room
pub roomy-store : (old new : Store) (t : Tree) → IsStoreFor old t → new.grammar.rules ≡ old.grammar.rules → new.names ≡ old.names → new.texts.texts ≡ old.texts.texts → AreCounts old.names (rules_of old.grammar.rules) new.counts → IsIndexOf new.grammar new.index → IsStoreFor new t
roomy-store old new t i rules names texts counts index = record {
  stand = subst (λ (G : List KeyedRule). StandsFor (rules_of G) new.names new.texts.texts t) (sym rules)
      (subst (λ (ps : List Pair). StandsFor (rules_of old.grammar.rules) ps new.texts.texts t) (sym names) (subst (λ (vs : List (List ℕ)). StandsFor (rules_of old.grammar.rules) old.names vs t) (sym texts) i.stand));
  small = i.small;
  swept = subst (λ (G : List KeyedRule). IsSwept (rules_of G)) (sym rules) i.swept;
  counts = subst (λ (G : List KeyedRule). AreCounts new.names (rules_of G) new.counts) (sym rules) (subst (λ (ps : List Pair). AreCounts ps (rules_of old.grammar.rules) new.counts) (sym names) counts);
  index = index;
}
