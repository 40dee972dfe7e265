-- What is added up along a descent.
use Rattle.std.specs.Prelude.{ℕ, ◌+◌, ◌-◌, ◌<◌, ◌^◌, List, if◌then◌else◌, eqb}
use Rattle.rule_arena.specs.declared.label.Label.{Label}
use Rattle.rule_arena.specs.declared.label.Label.TheVariants.{Call, Param}
use Rattle.slt_grammar.specs.declared.rules.Rule.{Rule}
use Rattle.segment_counts.specs.Counting.{AreCounts, CountTable, told_before}
use Rattle.segment_counts.specs.Weights.{text_weight, node_weight, all_weight}
use Rattle.segment_counts.specs.declared.counts.Measure.{Measure}
use Rattle.segment_counts.specs.declared.counts.Measure.TheVariants as measure
use Rattle.preorder_address.specs.Numberings.{AreCountsOf}
use Rattle.preorder_address.specs.declared.weigher.Weigher.{Weigher}
use Rattle.preorder_address.specs.declared.weigher.Weigher.TheVariants.{Texts, Nodes, All}
use Rattle.preorder_address.specs.declared.site.KidPlace.{KidPlace}

-- what a label weighs
abbrev pub weight_of : Weigher → Label → ℕ
weight_of (Texts names) l = text_weight names.now l
weight_of Nodes l = node_weight l
weight_of All l = all_weight l

abbrev pub measure_by : Weigher → Measure
measure_by (Texts names) = measure.Texts
measure_by Nodes = measure.Nodes
measure_by All = measure.All

-- the counts to which it belongs
abbrev pub AreCountsBy : Weigher → List Rule → CountTable → Type 0
AreCountsBy (Texts names) G C = AreCounts names.now G C
AreCountsBy Nodes G C = AreCountsOf G C
AreCountsBy All G C = AreCountsOf G C

-- what is kept of all segments of a called rule fits 64 bits
abbrev pub IsSmallCall : Measure → CountTable → Label → ℕ → Type 0
IsSmallCall m C (Call q) kids = told_before m C.rows q (kids + 1) < 2 ^ 64
IsSmallCall m C l kids = Unit {0}

-- the parameters at a label
abbrev pub params_at : Label → ℕ
params_at Param = 1
params_at l = 0

-- a node with some kids ends one term of a kid and begins that many; where none is left the next kid begins
abbrev pub passed : KidPlace → ℕ → KidPlace
passed place kids = if eqb (place.left + kids) 1 then record { kid = place.kid + 1; left = 1 } else record { kid = place.kid; left = place.left + kids - 1 }
