-- Marks that are left, or were moved, where the value changed at one node.
use Rattle.std.specs.Prelude.{◌≡◌, ◌≢◌, ◌⊎◌, ℕ, ◌+◌, ◌<◌, List, All, Some, slice_get}
use Rattle.rule_arena.specs.declared.key.Key.{Key}
use Rattle.segment_counts.specs.Counting.{weight_by}
use Rattle.segment_counts.specs.declared.counts.Measure.{Measure}
use Rattle.segment_counts.specs.declared.counts.Weights.{Weights}
use Rattle.preorder_address.specs.Numberings.{measure_of}
use Rattle.preorder_address.specs.declared.marks.Mark.{Mark}
use Rattle.preorder_address.specs.declared.shifting.Shift.{Shift}

-- how many numbers are counted by the weights, where a shift has its number among them
abbrev pub number_in : Shift → Weights → ℕ
number_in shift weights = weight_by (measure_of shift.by) weights

-- the second weights are more or less than the first by what the value has come to weigh
abbrev pub MoveBy : Shift → Weights → Weights → Type 0
MoveBy shift old new = (m : Measure) → weight_by m new + weight_by m shift.had ≡ weight_by m old + weight_by m shift.has

-- a mark behind the number was moved, and stands behind it still
pub record IsMoved (shift : Shift) (old mark : Mark) : Type 0 where
  pub key : mark.key ≡ old.key
  pub was : shift.number < number_in shift old.passed
  pub is : shift.number < number_in shift mark.passed
  pub weights : MoveBy shift old.passed mark.passed

-- a mark whose key isn't gone stayed where it stood before the number, and else was moved
pub record ComesOf (shift : Shift) (gone : List Key) (old mark : Mark) : Type 0 where
  pub stands : All (λ k. k ≢ old.key) gone
  pub how : ((mark ≡ old) × (number_in shift old.passed < shift.number)) ⊎ IsMoved shift old mark

-- so of one of these marks
pub record IsLeft (shift : Shift) (gone : List Key) (olds : List Mark) (mark : Mark) : Type 0 where
  pub index : ℕ
  pub old : Mark
  pub there : slice_get olds index ≡ Some old
  pub comes : ComesOf shift gone old mark
