-- What the numbers of nodes count.
use Rattle.std.specs.Prelude.{ℕ, List}
use Rattle.plain_tree.specs.declared.kind.Kind.{Kind}
use Rattle.rule_arena.specs.declared.label.Label.{Label}
use Rattle.slt_grammar.specs.declared.rules.Rule.{Rule}
use Rattle.segment_counts.specs.Counting.{AreCounts, CountTable}
use Rattle.segment_counts.specs.Weights.{node_weight, all_weight}
use Rattle.segment_counts.specs.declared.counts.Measure.{Measure}
use Rattle.segment_counts.specs.declared.counts.Measure.TheVariants as measure
use Rattle.preorder_address.specs.declared.numbering.Numbering.{Numbering}
use Rattle.preorder_address.specs.declared.numbering.Numbering.TheVariants.{Nodes, All}

-- what a label weighs where numbers count the nodes alone, or the bottoms too
abbrev pub weigh_by : Numbering → Label → ℕ
weigh_by Nodes l = node_weight l
weigh_by All l = all_weight l

-- the counts to which they belong
abbrev pub measure_of : Numbering → Measure
measure_of Nodes = measure.Nodes
measure_of All = measure.All

-- these are the counts of the rules, by some names
abbrev pub AreCountsOf : List Rule → CountTable → Type 0
AreCountsOf G C = (names : List (Kind × List ℕ)) × AreCounts names G C
