-- What the kept numbers have to be.
use Rattle.std.specs.Prelude.{◌≡◌, ℕ, zero, suc, ◌+◌, ◌<◌, ◌≤◌, ◌^◌, List, [], length, get_or, sum_by}
use Rattle.plain_tree.specs.declared.kind.Kind.{Kind}
use Rattle.slt_grammar.specs.Segments.{preorder}
use Rattle.slt_grammar.specs.declared.rules.Rule.{Rule}
use Rattle.segment_counts.specs.Weights.{weigh, count}
use Rattle.segment_counts.specs.declared.counts.Measure.{Measure}
use Rattle.segment_counts.specs.declared.counts.Measure.TheVariants.{Nodes, Texts, All}
use Rattle.segment_counts.specs.declared.counts.Weights.{Weights}

-- the rows of all rules for which there is room, and how many rules were counted: a row has the weights of a rule's segments
pub record CountTable : Type 0 where
  pub rows : List (List Weights)
  pub rules : ℕ

-- what is weighed by a measure
abbrev pub weight_by : Measure → Weights → ℕ
weight_by Nodes w = w.nodes
weight_by Texts w = w.texts
weight_by All w = w.all

-- where no segment is, and where no rule is
abbrev pub no_weights : Weights
no_weights = record { nodes = 0; texts = 0; all = 0 }

abbrev pub no_row : List Weights
no_row = []

-- the number that is kept of a rule's segment
abbrev pub told : Measure → List (List Weights) → ℕ → ℕ → ℕ
told m C q i = weight_by m (get_or (get_or C q no_row) i no_weights)

-- and of the segments before one together
abbrev pub told_before : Measure → List (List Weights) → ℕ → ℕ → ℕ
told_before m C q zero = 0
told_before m C q (suc i) = told_before m C q i + told m C q i

-- the numbers of the rules before k are the weights of their segments, and each value's weight fits 64 bits
pub record AreCountsBelow (names : List (Kind × List ℕ)) (k : ℕ) (G : List Rule) (C : List (List Weights)) : Type 0 where
  pub each : (m : Measure) (q i : ℕ) → q < k → told m C q i ≡ count (weigh names m) G q i
  pub small : (m : Measure) (q : ℕ) → q < k → sum_by (weigh names m) (preorder G q) < 2 ^ 64

-- these are the counts of the grammar's rules
pub record AreCounts (names : List (Kind × List ℕ)) (G : List Rule) (C : CountTable) : Type 0 where
  pub rules : C.rules ≡ length G
  pub room : length G ≤ length C.rows
  pub numbers : AreCountsBelow names (length G) G C.rows
