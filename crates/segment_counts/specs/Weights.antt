-- What labels weigh.
use Rattle.std.specs.Prelude.{ℕ, suc, zero, ◌+◌, List, Option, Some, None, sum_by, slice_get, if◌then◌else◌}
use Rattle.plain_tree.specs.declared.kind.Kind.{Kind}
use Rattle.plain_tree.specs.Numbers.{has_value}
use Rattle.rule_arena.specs.declared.label.Label.{Label}
use Rattle.rule_arena.specs.declared.label.Label.TheVariants.{Bottom, Symbol}
use Rattle.slt_grammar.specs.Segments.{segment, preorder}
use Rattle.slt_grammar.specs.declared.rules.Rule.{Rule}
use Rattle.segment_counts.specs.declared.counts.Measure.{Measure}
use Rattle.segment_counts.specs.declared.counts.Measure.TheVariants.{Nodes, Texts, All}

-- 1 for a pair whose nodes have a value
abbrev pub valued : Option (Kind × List ℕ) → ℕ
valued None = 0
valued (Some (kind, name)) = if has_value kind then 1 else 0

-- the nodes that aren't bottom
abbrev pub node_weight : Label → ℕ
node_weight (Symbol f) = 1
node_weight l = 0

-- the nodes with a text
abbrev pub text_weight : List (Kind × List ℕ) → Label → ℕ
text_weight names (Symbol f) = valued (slice_get names f)
text_weight names l = 0

-- the nodes and the bottoms
abbrev pub all_weight : Label → ℕ
all_weight (Symbol f) = 1
all_weight Bottom = 1
all_weight l = 0

-- what a label weighs by a measure
abbrev pub weigh : List (Kind × List ℕ) → Measure → Label → ℕ
weigh names Nodes l = node_weight l
weigh names Texts l = text_weight names l
weigh names All l = all_weight l

-- the weight of a segment of a rule's value
abbrev pub count : (Label → ℕ) → List Rule → ℕ → ℕ → ℕ
count w G q i = sum_by w (segment i (preorder G q))

-- the weight of n segments together from segment j on
abbrev pub segments_sum : (Label → ℕ) → List Label → ℕ → ℕ → ℕ
segments_sum w ls j zero = 0
segments_sum w ls j (suc n) = sum_by w (segment j ls) + segments_sum w ls (suc j) n

-- and of the segments before segment i of a rule's value
abbrev pub count_before : (Label → ℕ) → List Rule → ℕ → ℕ → ℕ
count_before w G q i = segments_sum w (preorder G q) 0 i
