-- Counts that follow by the numbers of rules.
use Rattle.std.proofs.Common.{◌≡◌, ℕ, ◌+◌, ◌^◌, ◌<◌, ◌≤◌, List, ◌++◌, length, get_or, drop, length-drop, suc, ap, sym, ◌∙◌, arith, sum_by, subst, ◌⊎◌, inl, inr}
use Rattle.std.specs.Prelude.{replicate, set}
use Rattle.std.proofs.lemmas.Bool.{cases_lt}
use Rattle.std.proofs.lemmas.List.{drop-set-add, get_or-set_other}
use Rattle.plain_tree.specs.declared.kind.Kind.{Kind}
use Rattle.slt_grammar.specs.Grammars.{IsGrammar, IsSwept, value, value_at}
use Rattle.slt_grammar.specs.Segments.{preorder}
use Rattle.slt_grammar.specs.declared.rules.Rule.{Rule}
use Rattle.segment_counts.specs.Changes.{IsRowOf}
use Rattle.segment_counts.specs.Counting.{AreCounts, AreCountsBelow, CountTable, no_row, no_weights, weight_by}
use Rattle.segment_counts.specs.Following.{HaveRowsByNumber, HaveValuesByNumber}
use Rattle.segment_counts.specs.Weights.{node_weight}
use Rattle.segment_counts.specs.declared.counts.Weights.{Weights}
use Rattle.segment_counts.proofs.Changed.{few-kept, row-counted}
use Rattle.segment_counts.proofs.Cuts.{padded}
use Rattle.segment_counts.proofs.Rows.{below-row, too-many-whole}

module _ (names : List (Kind × List ℕ)) (G H : List Rule) (C : CountTable) (a : AreCounts names G C) where
  -- no rule has too many nodes
  pub few-each : IsGrammar G → value H ≡ value G → IsGrammar H → IsSwept H → (q : ℕ) → q < length H → sum_by node_weight (preorder H q) < 2 ^ 63
  few-each g same k swept q h = by_size (cases_lt (sum_by node_weight (preorder H q)) (2 ^ 63))
    where
      by_size : (sum_by node_weight (preorder H q) < 2 ^ 63) ⊎ (2 ^ 63 ≤ sum_by node_weight (preorder H q)) → sum_by node_weight (preorder H q) < 2 ^ 63
      by_size (inl l) = l
      by_size (inr m) = absurd (omega (arith, too-many-whole H k swept q h m, few-kept names G H C a g same))

  -- a row is that of each rule with the same number
  pub rows-by-number : (before now : List ℕ) → length before ≡ length G → HaveValuesByNumber before now G H → HaveRowsByNumber names before now C.rows H
  rows-by-number before now n v = record {
    each = λ q r h l e. subst (λ t. IsRowOf names t (get_or C.rows r no_row)) (sym (v.values q r h (omega (arith, l, n)) e)) (row-counted names G C a r (omega (arith, l, n)));
  }

-- a row was put behind those of the rules before, which stand behind others
module _ (names : List (Kind × List ℕ)) (G : List Rule) (from rule : ℕ) (C D : CountTable) (R : List Weights) (n : C.rules ≡ from + rule) (free : C.rules < length C.rows) (e : D.rows ≡ set C.rows C.rules R) where
  there : D.rows ≡ set C.rows (from + rule) R
  there = e ∙ ap (λ k. set C.rows k R) n

  pub first-kept : (q : ℕ) → q < from → get_or D.rows q no_row ≡ get_or C.rows q no_row
  first-kept q h = ap (λ (X : List (List Weights)). get_or X q no_row) there ∙ get_or-set_other C.rows (from + rule) q R no_row (omega (arith, h))

  pub behind-more : AreCountsBelow names rule G (drop from C.rows) → IsRowOf names (value_at G rule) R → AreCountsBelow names (rule + 1) G (drop from D.rows)
  behind-more b r =
      let z : suc rule ≡ rule + 1 = omega arith in
      let f : set (drop from C.rows) rule R ≡ drop from D.rows = sym (ap (drop from) there ∙ drop-set-add from C.rows rule R) in
      subst (λ (k : ℕ). AreCountsBelow names k G (drop from D.rows)) z
      (subst (λ (X : List (List Weights)). AreCountsBelow names (suc rule) G X) f (below-row names G rule (drop from C.rows) b (omega (arith, n, free, length-drop from C.rows)) R r))

-- empty rows behind others change no count
pub below-padded : (names : List (Kind × List ℕ)) (k : ℕ) (G : List Rule) (X : List (List Weights)) (n : ℕ) → AreCountsBelow names k G X → AreCountsBelow names k G (X ++ replicate n no_row)
below-padded names k G X n b = record { each = λ m q i h. ap (λ (R : List Weights). weight_by m (get_or R i no_weights)) (padded X n q) ∙ b.each m q i h; small = b.small }
