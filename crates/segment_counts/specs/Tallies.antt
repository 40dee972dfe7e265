-- What one stop does to the sums along a tour.
use Rattle.std.specs.Prelude.{◌≡◌, ℕ, ◌+◌, ◌-◌, ◌^◌, List, get_or, map, set, take}
use Rattle.rule_arena.specs.declared.label.Label.{Label}
use Rattle.rule_arena.specs.declared.label.Label.TheVariants.{Param}
use Rattle.segment_counts.specs.Counting.{weight_by}
use Rattle.segment_counts.specs.declared.counts.Measure.{Measure}
use Rattle.segment_counts.specs.declared.counts.Measure.TheVariants.{Nodes, Texts, All}
use Rattle.segment_counts.specs.declared.counts.Weights.{Weights}
use Rattle.segment_counts.specs.declared.tally.Tallies.{Tallies}

-- the sums of the segments by one measure, the segment in which the tour stands, and the sum of all
pub record Tally : Type 0 where
  pub sums : List ℕ
  pub at : ℕ
  pub total : ℕ

abbrev pub tally_by : Measure → Tallies → Tally
tally_by m t = record { sums = map (weight_by m) t.sums; at = t.at; total = weight_by m t.total }

-- the sums of the segments up to the one in which the tour stands
abbrev pub row_of : Tallies → List Weights
row_of t = take (t.at + 1) t.sums

-- the most that a whole value weighs
abbrev pub limit_by : Measure → ℕ
limit_by Nodes = 2 ^ 63 - 1
limit_by Texts = 2 ^ 64 - 1
limit_by All = 2 ^ 64 - 1

-- a parameter ends its segment, and another label adds its weight there
abbrev pub Adds : Label → ℕ → Tally → Tally → Type 0
Adds Param n s t = t ≡ record { sums = s.sums; at = s.at + 1; total = s.total }
Adds l n s t = t ≡ record { sums = set s.sums s.at (get_or s.sums s.at 0 + n); at = s.at; total = s.total + n }
