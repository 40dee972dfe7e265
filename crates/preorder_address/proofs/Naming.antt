-- The node of a tree's code with a number.
use Rattle.std.proofs.Common.{◌≡◌, ℕ, ◌-◌, ◌<◌, ◌≤◌, List, [], ◌∷◌, ◌++◌, length, refl, ap, sym, ◌∙◌, arith, None, Some, sum_by, append-nil}
use Rattle.std.specs.Prelude.{slice_get, option_map}
use Rattle.std.proofs.lemmas.Option.{slice_get_past, some_pair_parts}
use Rattle.plain_tree.specs.declared.kind.Kind.{Kind}
use Rattle.plain_tree.specs.Tree.{Tree, node, Trees, none, more, node_count}
use Rattle.plain_tree.specs.Numbers.{nodes, kind_of}
use Rattle.plain_tree.proofs.NodeCounts.{length-nodes}
use Rattle.rule_arena.specs.declared.label.Label.{Label}
use Rattle.rule_arena.specs.declared.label.Label.TheVariants.{Bottom, Symbol, Call, Param}
use Rattle.slt_grammar.specs.Coding.{Codes}
use Rattle.slt_grammar.specs.Grammars.{IsGrammar, value}
use Rattle.slt_grammar.specs.Keyed.{KeyedRule, rules_of}
use Rattle.slt_grammar.specs.Segments.{listed, preorder}
use Rattle.slt_grammar.proofs.KeyedLemmas.{length-rules_of}
use Rattle.segment_counts.specs.Counting.{CountTable, told}
use Rattle.segment_counts.specs.Weights.{node_weight}
use Rattle.segment_counts.specs.declared.counts.Measure.TheVariants.{Nodes}
use Rattle.segment_counts.proofs.Telling.{total-told}
use Rattle.preorder_address.specs.Chains.{IsAt}
use Rattle.preorder_address.specs.Numberings.{AreCountsOf}
use Rattle.preorder_address.specs.TreeNumbers.{kind_at}
use Rattle.preorder_address.proofs.TreePlaces.{NodePlace, node-place}
use Rattle.segment_counts.proofs.Coded.{nodes-coded}

-- what counts as a node is a symbol
pub symbol-of : (l : Label) → 0 < node_weight l → (f : ℕ) × (l ≡ Symbol f)
symbol-of Bottom h = absurd (omega arith)
symbol-of (Symbol f) h = (f, refl)
symbol-of (Call q) h = absurd (omega arith)
symbol-of Param h = absurd (omega arith)

-- the last rule's value is the grammar's
pub value-last : (G : List KeyedRule) → preorder (rules_of G) (length G - 1) ≡ listed (value (rules_of G)) []
value-last G = ap (λ k. preorder (rules_of G) (k - 1)) (sym (length-rules_of G))

module _ (names : List (Kind × List ℕ)) (G : List KeyedRule) (t : Tree) (c : Codes names (more t none) (value (rules_of G))) where
  -- a kept total is the tree's count
  pub total-count : (C : CountTable) → AreCountsOf (rules_of G) C → IsGrammar (rules_of G) → told Nodes C.rows (C.rules - 1) 0 ≡ node_count t
  total-count C a g = omega (arith, total-told a.0 (rules_of G) C a.1 g Nodes, nodes-coded names (more t none) (value (rules_of G)) c [])

  -- the tree has no such node
  pub past-count : (n : ℕ) → node_count t ≤ n → slice_get (nodes t) n ≡ None
  past-count n h = slice_get_past (nodes t) n (omega (arith, h, length-nodes t))

  -- a number in the last rule's value is a node of the tree
  pub record NumberedNode (n : ℕ) (label : Label) : Type 0 where
    pub symbol : ℕ
    pub is_symbol : label ≡ Symbol symbol
    pub before : List Label
    pub after : List Label
    pub split : listed (value (rules_of G)) [] ≡ before ++ Symbol symbol ∷ after
    pub number : sum_by node_weight before ≡ n
    pub place : NodePlace names (more t none) before symbol after
    pub node_is : slice_get (nodes t) n ≡ Some (node place.kind place.name place.value place.kids)

  pub numbered : (n : ℕ) (label : Label) → 0 < node_weight label → IsAt node_weight (preorder (rules_of G) (length G - 1)) n label → NumberedNode n label
  numbered n label h a =
      let s = symbol-of label h in
      let e : listed (value (rules_of G)) [] ≡ a.before ++ Symbol s.0 ∷ a.after = sym (value-last G) ∙ a.split ∙ ap (λ l. a.before ++ l ∷ a.after) s.1 in
      let p = node-place names (more t none) (value (rules_of G)) c a.before s.0 a.after e in
      record {
        symbol = s.0;
        is_symbol = s.1;
        before = a.before;
        after = a.after;
        split = e;
        number = a.number;
        place = p;
        node_is = ap (slice_get (nodes t)) (sym a.number) ∙ ap (λ xs. slice_get xs (sum_by node_weight a.before)) (sym (append-nil (nodes t ++ []) ∙ append-nil (nodes t))) ∙ p.there [];
      }

module _ (names : List (Kind × List ℕ)) (G : List KeyedRule) (t : Tree) (c : Codes names (more t none) (value (rules_of G))) (n : ℕ) where
  -- where no node has the number there is no kind
  pub no-kind : node_count t ≤ n → kind_at t n ≡ None
  no-kind h = ap (option_map kind_of) (past-count names G t c n h)

  module _ (label : Label) (x : NumberedNode names G t c n label) (symbol : ℕ) (e : Symbol symbol ≡ label) where
    same-symbol : symbol ≡ x.symbol
    same-symbol =
        let p : Symbol symbol ≡ Symbol x.symbol = e ∙ x.is_symbol in
        cc

    -- the kind is that of the symbol's pair
    pub kind-told : (kind : Kind) (name : List ℕ) → Some (kind, name) ≡ slice_get names symbol → Some kind ≡ kind_at t n
    kind-told kind name d =
        let p = some_pair_parts kind x.place.kind name x.place.name (d ∙ ap (slice_get names) same-symbol ∙ x.place.pair) in
        ap Some p.0 ∙ sym (ap (option_map kind_of) x.node_is)

    pub never-unnamed : None ≡ slice_get names symbol → ⊥
    never-unnamed d =
        let p : None ≡ Some (x.place.kind, x.place.name) = d ∙ ap (slice_get names) same-symbol ∙ x.place.pair in
        cc

-- in the code of a list each symbol has a name
pub named : (names : List (Kind × List ℕ)) (G : List KeyedRule) (ts : Trees) → Codes names ts (value (rules_of G)) → (n : ℕ) (label : Label) → IsAt node_weight (preorder (rules_of G) (length G - 1)) n label
    → (f : ℕ) → Symbol f ≡ label → None ≡ slice_get names f → ⊥
named names G ts c n label a f e d =
    let s : listed (value (rules_of G)) [] ≡ a.before ++ Symbol f ∷ a.after = sym (value-last G) ∙ a.split ∙ ap (λ l. a.before ++ l ∷ a.after) (sym e) in
    let p = node-place names ts (value (rules_of G)) c a.before f a.after s in
    let x : None ≡ Some (p.kind, p.name) = d ∙ p.pair in
    cc
