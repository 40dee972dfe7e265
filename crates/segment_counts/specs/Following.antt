-- Values that stay with the numbers of their rules.
use Rattle.std.specs.Prelude.{ℕ, ◌≡◌, ◌+◌, ◌<◌, List, length, get_or}
use Rattle.plain_tree.specs.declared.kind.Kind.{Kind}
use Rattle.slt_grammar.specs.Grammars.{value_at}
use Rattle.slt_grammar.specs.declared.rules.Rule.{Rule}
use Rattle.segment_counts.specs.Changes.{IsRowOf}
use Rattle.segment_counts.specs.Counting.{no_row}
use Rattle.segment_counts.specs.declared.counts.Weights.{Weights}

-- a rule before the start has the value of each one that had the same number
pub record HaveValuesByNumber (before now : List ℕ) (G H : List Rule) : Type 0 where
  pub values : (q r : ℕ) → q + 1 < length H → r + 1 < length G → get_or now q 0 ≡ get_or before r 0 → value_at H q ≡ value_at G r

-- each one's row has the weights of the rule's value
pub record HaveRowsByNumber (names : List (Kind × List ℕ)) (before now : List ℕ) (rows : List (List Weights)) (H : List Rule) : Type 0 where
  pub each : (q r : ℕ) → q + 1 < length H → r + 1 < length before → get_or now q 0 ≡ get_or before r 0 → IsRowOf names (value_at H q) (get_or rows r no_row)
