-- Stores before whose document's node n other trees come.
use Rattle.std.proofs.Common.{◌≡◌, ℕ, ◌+◌, ◌-◌, ◌*◌, ◌/◌, ◌<◌, ◌≤◌, ◌^◌, List, [], ◌∷◌, ◌++◌, length, take, drop, refl, ap, sym, ◌∙◌, subst, arith, Some, length-append}
use Rattle.std.specs.List.{insert_slice}
use Rattle.std.proofs.lemmas.List.{take-append-drop}
use Rattle.std.proofs.lemmas.Option.{same_Some}
use Rattle.plain_tree.specs.declared.edit.Edit.TheVariants.{Insert}
use Rattle.plain_tree.specs.Edits.{made, placed}
use Rattle.plain_tree.specs.NodePairs.{Pair}
use Rattle.plain_tree.specs.Numbers.{texts_all}
use Rattle.plain_tree.specs.Siblings.{from_node}
use Rattle.plain_tree.specs.Tree.{Tree, node, Trees, none, more, trees, node_count, node_count_all}
use Rattle.plain_tree.proofs.EditCounts.{count-inserted}
use Rattle.plain_tree.proofs.LawfulDocuments.{BecomesDocument}
use Rattle.slt_grammar.specs.Coding.{Codes, CodesTo}
use Rattle.slt_grammar.specs.Grammars.{IsGrammar, value}
use Rattle.slt_grammar.specs.Keyed.{rules_of}
use Rattle.slt_grammar.specs.Standing.{StandsFor}
use Rattle.slt_grammar.specs.Terms.{Term, Node, Hole, substitute}
use Rattle.slt_grammar.specs.declared.rules.Rule.{Rule}
use Rattle.slt_grammar.proofs.Standing.{texts-one}
use Rattle.segment_counts.specs.Changes.{HasMore, start_weights}
use Rattle.segment_counts.specs.Counting.{AreCounts, CountTable}
use Rattle.segment_counts.specs.declared.counts.Measure.TheVariants.{Nodes, Texts, All}
use Rattle.segment_counts.proofs.Coded.{nodes-coded}
use Rattle.segment_counts.proofs.Telling.{total-told}
use Rattle.preorder_address.specs.TreeNumbers.{text_rank_at}
use Rattle.preorder_address.proofs.TreePlaces.{all-coded, texts-coded}
use Rattle.fcns_encoding.specs.declared.coding.Coded.{Coded}
use Rattle.tree_updates.specs.Extents.{IsUnsweptFor, LeavesDocument}
use Rattle.tree_updates.specs.Fragments.{GetsBefore, MayComeBefore}
use Rattle.tree_updates.specs.declared.store.Store.{Store}
use Rattle.tree_updates.proofs.CodeBodies.{code-length}
use Rattle.tree_updates.proofs.CodeEdits.{node-there, number-low}
use Rattle.tree_updates.proofs.Ranks.{rank-told}
use Rattle.tree_updates.proofs.Recounted.{has-more}
use Rattle.tree_updates.proofs.Stands.{stands-inserted}
use Rattle.tree_updates.proofs.Texts.{rank_in, texts-around}

pub length-inserted : (xs ys : List (List ℕ)) (r : ℕ) → length (insert_slice xs r ys) ≡ length xs + length ys
length-inserted xs ys r =
    omega (
      arith,
      length-append (take r xs ++ ys) (drop r xs),
      length-append (take r xs) ys,
      length-append (take r xs) (drop r xs),
      ap length (take-append-drop r xs),
    )

-- the rank of a node is that of a text, or behind the last
pub rank-fits : (t : Tree) (values : List (List ℕ)) (n rank : ℕ) → values ≡ texts_all (more t none) → n < node_count t → Some rank ≡ text_rank_at t n → rank ≤ length values
rank-fits t values n rank e low told =
    let A = texts-around n (more t none) (omega (arith, low)) in
    let r : rank ≡ rank_in n (more t none) = same_Some rank (rank_in n (more t none)) (told ∙ rank-told t n low) in
    omega (arith, r, A.rank, ap length e, ap length A.were, length-append A.front (texts_all (from_node n (more t none)) ++ A.back))

module _ (G H : List Rule) (names : List Pair) (values : List (List ℕ)) (t : Tree) (s : StandsFor G names values t) (n rank : ℕ) (F : List Tree) (leaves : LeavesDocument t (Insert n F)) (rank_is : Some rank ≡ text_rank_at t n)
    (front : Term) (codes : CodesTo names (Hole 0) (trees F) front) (gets : GetsBefore G H n front) where
  abbrev ts : Trees
  ts = more t none

  coded : Codes names (more t none) (substitute gets.differ.around (Node gets.symbol gets.left gets.right ∷ []))
  coded = subst (Codes names (more t none)) gets.differ.first s.code

  low-all : n < node_count_all (more t none)
  low-all = subst (λ (i : ℕ). i < node_count_all (more t none)) gets.differ.before (number-low names ts gets.differ.around gets.symbol gets.left gets.right gets.differ.once coded)

  pub low-inserted : n < node_count t
  low-inserted = omega (arith, low-all)

  becomes : BecomesDocument (made more (Insert n F) (more t none))
  becomes = record { tree = placed t (Insert n F); is = leaves.alone; document = leaves.document }

  rank-here : rank_in n (more t none) ≡ rank
  rank-here = same_Some (rank_in n (more t none)) rank (sym (rank-told t n low-inserted) ∙ sym rank_is)

  pub place-inserted : rank ≤ length values
  place-inserted = rank-fits t values n rank (s.texts ∙ sym (texts-one t)) low-inserted rank_is

  -- the rules with the code, and the texts among the others, stand for the document with the trees
  pub inserted-stands : StandsFor H names (insert_slice values rank (texts_all (trees F))) (placed t (Insert n F))
  inserted-stands =
      let B = node-there names ts gets.differ.around gets.symbol gets.left gets.right gets.differ.once coded in
      let here : from_node n ts ≡ more (node B.kind B.name B.value B.kids) B.behind = ap (λ (i : ℕ). from_node i ts) (sym gets.differ.before) ∙ B.is in
      subst (λ (i : ℕ). StandsFor H names (insert_slice values i (texts_all (trees F))) (placed t (Insert n F))) rank-here
      (stands-inserted G H names values t s n gets.symbol gets.left gets.right (substitute front (Node gets.symbol gets.left gets.right ∷ [])) gets.differ B.kind B.name B.value B.kids B.behind here F front refl codes becomes)

  pub count-with : node_count (placed t (Insert n F)) ≡ node_count t + node_count_all (trees F)
  count-with = omega (arith, ap node_count_all leaves.alone, count-inserted n ts low-all (trees F))

  pub inserted-more : HasMore names (value G) (value H) (node_count_all (trees F)) (length (texts_all (trees F)))
  inserted-more =
      has-more G H names values (insert_slice values rank (texts_all (trees F))) t (placed t (Insert n F)) (node_count_all (trees F)) (length (texts_all (trees F))) s inserted-stands count-with (length-inserted values (texts_all (trees F)) rank)

  -- the counts of the start have room for what comes
  module _ (C : CountTable) (a : AreCounts names G C) (g : IsGrammar G) (small : node_count (placed t (Insert n F)) < 2 ^ 63) where
    start-nodes : (start_weights C).nodes ≡ node_count t
    start-nodes = omega (arith, total-told names G C a g Nodes, nodes-coded names ts (value G) s.code [])

    pub nodes-come : (start_weights C).nodes + node_count_all (trees F) < 2 ^ 64
    nodes-come = omega (arith, start-nodes, count-with, small)

    pub all-come : (start_weights C).all + 2 * node_count_all (trees F) < 2 ^ 64
    all-come = omega (arith, total-told names G C a g All, all-coded names ts (value G) s.code [], nodes-coded names ts (value G) s.code [], count-with, small)

    pub start-texts : (start_weights C).texts ≡ length values
    start-texts = omega (arith, total-told names G C a g Texts, texts-coded names ts (value G) s.code [], ap length (texts-one t), ap length s.texts)

-- what putting a code with its texts before a node makes of a store
module _ (a : Store) (t : Tree) (u : IsUnsweptFor a t) (n rank : ℕ) (F : List Tree) (c : Coded) (M : MayComeBefore a t n rank F c) (H : List Rule) (gets : GetsBefore (rules_of a.grammar.rules) H n M.code.front) where
  abbrev G' : List Rule
  G' = rules_of a.grammar.rules

  abbrev values' : List (List ℕ)
  values' = a.texts.texts

  half : (labels : ℕ) → labels ≡ length c.body → labels / 2 ≡ node_count_all (trees F)
  half labels e = omega (arith, e, code-length a.names F c.body M.code)

  pub put-place : rank ≤ length a.texts.texts
  put-place = place-inserted G' H a.names values' t u.stand n rank F M.leaves M.rank_is M.code.front M.code.codes gets

  module _ (g : IsGrammar (rules_of a.grammar.rules)) (labels : ℕ) (e : labels ≡ length c.body) where
    pub put-nodes : (start_weights a.counts).nodes + labels / 2 < 2 ^ 64
    put-nodes = omega (arith, half labels e, nodes-come G' H a.names values' t u.stand n rank F M.leaves M.rank_is M.code.front M.code.codes gets a.counts u.counts g M.small)

    pub put-all : (start_weights a.counts).all + 2 * (labels / 2) < 2 ^ 64
    put-all = omega (arith, half labels e, all-come G' H a.names values' t u.stand n rank F M.leaves M.rank_is M.code.front M.code.codes gets a.counts u.counts g M.small)

    pub put-texts : (start_weights a.counts).texts ≡ length a.texts.texts
    put-texts = start-texts G' H a.names values' t u.stand n rank F M.leaves M.rank_is M.code.front M.code.codes gets a.counts u.counts g M.small

  -- the texts with those that came
  module _ (new : List (List ℕ)) (are : new ≡ insert_slice a.texts.texts rank c.texts) where
    pub put-length : length new ≡ length a.texts.texts + length (texts_all (trees F))
    put-length = ap length are ∙ length-inserted values' c.texts rank ∙ ap (λ xs. length a.texts.texts + length xs) M.texts_are

    pub put-stands : StandsFor H a.names new (placed t (Insert n F))
    put-stands =
        subst (λ xs. StandsFor H a.names xs (placed t (Insert n F))) (ap (insert_slice values' rank) (sym M.texts_are) ∙ sym are)
        (inserted-stands G' H a.names values' t u.stand n rank F M.leaves M.rank_is M.code.front M.code.codes gets)

    pub put-counts : (C : CountTable) (labels before after : ℕ) → labels ≡ length c.body → before ≡ length a.texts.texts → after ≡ length new
        → (HasMore a.names (value (rules_of a.grammar.rules)) (value H) (labels / 2) (after - before) → AreCounts a.names H C) → AreCounts a.names H C
    put-counts C labels before after e b f told =
        let m = put-length in
        let texts : length (texts_all (trees F)) ≡ after - before = omega (arith, b, f, m) in
        told (subst (λ (x : ℕ). HasMore a.names (value (rules_of a.grammar.rules)) (value H) x (after - before)) (sym (half labels e))
        (subst (λ (y : ℕ). HasMore a.names (value (rules_of a.grammar.rules)) (value H) (node_count_all (trees F)) y) texts
        (inserted-more G' H a.names values' t u.stand n rank F M.leaves M.rank_is M.code.front M.code.codes gets)))
