-- Changes of a grammar's value at one node of the start, and what stays around it.
use Rattle.std.specs.Prelude.{◌≡◌, ◌≢◌, ℕ, ◌+◌, ◌-◌, ◌<◌, List, [], ◌++◌, All, Some, length, sum_by}
use Rattle.rule_arena.specs.declared.key.Key.{Key}
use Rattle.rule_arena.specs.declared.label.Label.{Label}
use Rattle.slt_grammar.specs.Grammars.{value}
use Rattle.slt_grammar.specs.Keyed.{KeyedRule, key_at, rules_of}
use Rattle.slt_grammar.specs.Segments.{listed}
use Rattle.start_fronts.specs.Before.{StandsBehindSame, labels_before}

-- the labels of what the grammar stands for
abbrev pub value_labels : List KeyedRule → List Label
value_labels G = listed (value (rules_of G)) []

-- how much it weighs
abbrev pub weight_in : (Label → ℕ) → List KeyedRule → ℕ
weight_in w G = sum_by w (value_labels G)

-- and how much the start's tour passes before it meets the node at a place
abbrev pub weight_before : (Label → ℕ) → List KeyedRule → ℕ → ℕ
weight_before w G place = sum_by w (labels_before G (length G - 1) place)

-- the key stands in the start of H, and from there on stand the labels that stand from a place of the start of G on
pub record StandsBeforeSame (G H : List KeyedRule) (place : ℕ) (key : Key) : Type 0 where
  pub now : ℕ
  pub there : key_at H (length H - 1) now ≡ Some key
  pub rest : List Label
  pub first : value_labels G ≡ labels_before G (length G - 1) place ++ rest
  pub second : value_labels H ≡ labels_before H (length H - 1) now ++ rest

-- The value changed behind this number of weighed labels. A node of the start before which there is less has the same before it still. One
-- before which there is more has the same from it on, where the change leaves it behind the number. But for the nodes with the keys that are gone.
-- By node_weight the number is that of a node, by all_weight a place.
pub record MovesBefore (w : Label → ℕ) (gone : List Key) (number : ℕ) (G H : List KeyedRule) : Type 0 where
  pub early : (key : Key) (place : ℕ) → key_at G (length G - 1) place ≡ Some key → All (λ k. k ≢ key) gone
      → weight_before w G place < number → StandsBehindSame G H place key
  pub late : (key : Key) (place : ℕ) → key_at G (length G - 1) place ≡ Some key → All (λ k. k ≢ key) gone
      → number < weight_before w G place → number + weight_in w G < weight_before w G place + weight_in w H → StandsBeforeSame G H place key
