-- The parents of a list of trees by its code.
use Rattle.std.proofs.Common.{◌≡◌, ℕ, zero, suc, ◌+◌, ◌-◌, ◌<◌, ◌≤◌, List, [], ◌∷◌, ◌++◌, length, drop, refl, ap, sym, ◌∙◌, arith, Option, None, Some, sum_by, length-append, ◌⊎◌, inl, inr}
use Rattle.std.specs.Prelude.{slice_get}
use Rattle.std.proofs.lemmas.Bool.{cases_lt}
use Rattle.std.proofs.lemmas.Option.{slice_get_past}
use Rattle.plain_tree.specs.declared.kind.Kind.{Kind}
use Rattle.plain_tree.specs.Tree.{node, Trees, none, more, node_count_all}
use Rattle.rule_arena.specs.declared.label.Label.{Label}
use Rattle.rule_arena.proofs.PreorderLemmas.{slice_get-left, slice_get-right}
use Rattle.slt_grammar.specs.Bodies.{params}
use Rattle.slt_grammar.specs.Coding.{Codes}
use Rattle.slt_grammar.specs.Grammars.{IsGrammar, value}
use Rattle.slt_grammar.specs.Keyed.{KeyedRule, rules_of}
use Rattle.slt_grammar.specs.Segments.{listed, preorder}
use Rattle.slt_grammar.specs.Terms.{Term}
use Rattle.segment_counts.specs.Counting.{CountTable, told}
use Rattle.segment_counts.specs.Weights.{node_weight}
use Rattle.segment_counts.specs.declared.counts.Measure.TheVariants.{Nodes}
use Rattle.segment_counts.proofs.Telling.{total-told}
use Rattle.preorder_address.specs.Numberings.{AreCountsOf}
use Rattle.preorder_address.specs.Parents.{parent_among, parents_behind}
use Rattle.preorder_address.specs.TreeNumbers.{parent_at, parents}
use Rattle.preorder_address.proofs.Lading.{listed-term}
use Rattle.preorder_address.proofs.Naming.{value-last}
use Rattle.preorder_address.proofs.ParentLists.{among-append, behind-terms}
use Rattle.preorder_address.proofs.Sited.{laden-alone}
use Rattle.preorder_address.proofs.TreePlaces.{listed-append}
use Rattle.segment_counts.proofs.Coded.{nodes-coded}

pub length-parents : (up : Option ℕ) (first : ℕ) (ts : Trees) → length (parents up first ts) ≡ node_count_all ts
length-parents up first none = refl
length-parents up first (more (node k n v ks) ts) =
    omega (arith, length-append (parents (Some first) (first + 1) ks) (parents up (first + 1 + node_count_all ks) ts), length-parents (Some first) (first + 1) ks, length-parents up (first + 1 + node_count_all ks) ts)

drop-none : (n : ℕ) → ◌≡◌ {A = List ℕ} [] (drop n [])
drop-none zero = refl
drop-none (suc n) = refl

module _ (names : List (Kind × List ℕ)) where
  -- the code of trees tells the parent of each of their nodes
  parents-coded : (ts : Trees) (term : Term) → Codes names ts term → (first : ℕ) (up : Option ℕ) (ups : List (Option ℕ)) (rest : List Label) (n : ℕ) → n < node_count_all ts
      → Some (parent_among [] first (up ∷ ups) (listed term rest) n) ≡ slice_get (parents up first ts) n
  parents-coded none term c first up ups rest n h = absurd (omega arith)
  parents-coded (more (node kind name value ks) ts) term c first up ups rest zero h = ap (λ t. Some (parent_among [] first (up ∷ ups) (listed t rest) 0)) c.6
  parents-coded (more (node kind name value ks) ts) term c first up ups rest (suc n) h =
      ap (λ t. Some (parent_among [] first (up ∷ ups) (listed t rest) (suc n))) c.6
      ∙ by_place (cases_lt n (node_count_all ks)) (λ b. parents-coded ks c.1 c.4 (first + 1) (Some first) (up ∷ ups) (listed c.2 rest) n b)
      (λ m b. parents-coded ts c.2 c.5 (first + 1 + node_count_all ks) up ups rest m b)
    where
      by_place : (n < node_count_all ks) ⊎ (node_count_all ks ≤ n) → (n < node_count_all ks → Some (parent_among [] (first + 1) (Some first ∷ up ∷ ups) (listed c.1 (listed c.2 rest)) n) ≡ slice_get (parents (Some first) (first + 1) ks) n)
          → ((m : ℕ) → m < node_count_all ts → Some (parent_among [] (first + 1 + node_count_all ks) (up ∷ ups) (listed c.2 rest) m) ≡ slice_get (parents up (first + 1 + node_count_all ks) ts) m)
          → Some (parent_among [] (first + 1) (Some first ∷ up ∷ ups) (listed c.1 (listed c.2 rest)) n) ≡ slice_get (parents (Some first) (first + 1) ks ++ parents up (first + 1 + node_count_all ks) ts) n
      by_place (inl b) below behind =
          below b ∙ sym (slice_get-left (parents (Some first) (first + 1) ks) (parents up (first + 1 + node_count_all ks) ts) n (omega (arith, b, length-parents (Some first) (first + 1) ks)))
      by_place (inr b) below behind =
          let m : ℕ = n - node_count_all ks in
          let k : n ≡ length (parents (Some first) (first + 1) ks) + m = omega (arith, b, length-parents (Some first) (first + 1) ks) in
          let L = listed c.1 [] in
          let w : sum_by node_weight L ≡ node_count_all ks = omega (arith, nodes-coded names ks c.1 c.4 []) in
          let d : parents_behind [] (first + 1) (Some first ∷ up ∷ ups) L ≡ up ∷ ups = behind-terms 1 [] (first + 1) (Some first ∷ up ∷ ups) L (listed-term 0 c.1 [] tt) in
          ap (λ ls. Some (parent_among [] (first + 1) (Some first ∷ up ∷ ups) ls n)) (listed-append c.1 (listed c.2 rest))
          ∙ ap Some (among-append [] (first + 1) (Some first ∷ up ∷ ups) L (listed c.2 rest) n m [] (first + 1 + node_count_all ks) (omega (arith, w, b)) (drop-none (params L)) (omega (arith, w, laden-alone node_weight refl L))
          ∙ ap (λ ps. parent_among [] (first + 1 + node_count_all ks) ps (listed c.2 rest) m) d)
          ∙ behind m (omega (arith, b, h)) ∙ sym (ap (slice_get (parents (Some first) (first + 1) ks ++ parents up (first + 1 + node_count_all ks) ts)) k ∙ slice_get-right (parents (Some first) (first + 1) ks) (parents up (first + 1 + node_count_all ks) ts) m)

  module _ (G : List KeyedRule) (ts : Trees) (c : Codes names ts (value (rules_of G))) where
    -- a kept total is how many nodes the trees have
    pub total-trees : (C : CountTable) → AreCountsOf (rules_of G) C → IsGrammar (rules_of G) → told Nodes C.rows (C.rules - 1) 0 ≡ node_count_all ts
    total-trees C a g = omega (arith, total-told a.0 (rules_of G) C a.1 g Nodes, nodes-coded names ts (value (rules_of G)) c [])

    pub no-parent : (n : ℕ) → node_count_all ts ≤ n → parent_at ts n ≡ None
    no-parent n h = slice_get_past (parents None 0 ts) n (omega (arith, h, length-parents None 0 ts))

    pub parent-told : (n : ℕ) → n < node_count_all ts → Some (parent_among [] 0 (None ∷ []) (preorder (rules_of G) (length G - 1)) n) ≡ parent_at ts n
    parent-told n h = ap (λ ls. Some (parent_among [] 0 (None ∷ []) ls n)) (value-last G) ∙ parents-coded ts (value (rules_of G)) c 0 None [] [] n h
