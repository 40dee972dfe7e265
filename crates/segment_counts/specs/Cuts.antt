-- Rows that lie one behind another in one list.
use Rattle.std.specs.Prelude.{ℕ, ◌≡◌, ◌<◌, ◌≤◌, ◌+◌, ◌-◌, ◌*◌, ◌^◌, List, [], ◌∷◌, ◌++◌, length, take, drop, replicate}
use Rattle.segment_counts.specs.Counting.{CountTable, no_row}
use Rattle.segment_counts.specs.declared.counts.Weights.{Weights}

-- the rows from a start on, up to each of the ends
abbrev pub cut_rows : ℕ → List Weights → List ℕ → List (List Weights)
cut_rows start ws [] = []
cut_rows start ws (e ∷ es) = take (e - start) (drop start ws) ∷ cut_rows e ws es

-- the ends rise, by nine at most, and the last row ends where the list ends
abbrev pub AreCut : ℕ → List Weights → List ℕ → Type 0
AreCut start ws [] = start ≡ length ws
AreCut start ws (e ∷ es) = (start ≤ e) × (e ≤ start + 9) × (e ≤ length ws) × AreCut e ws es

-- where an end lies after another moved
abbrev pub moved : ℕ → ℕ → ℕ → ℕ
moved from to end = end - from + to

-- the rows of the rules that were counted, and empty ones for which there is room
abbrev pub table_of : List Weights → List ℕ → ℕ → CountTable
table_of ws ends room = record { rows = cut_rows 0 ws ends ++ replicate (room - length ends) no_row; rules = length ends }

-- one row for each end, and memory for rows of nine weights, whose ends fit 32 bits
pub record HaveRoom (ws : List Weights) (ends : List ℕ) (capacity end_capacity room : ℕ) : Type 0 where
  pub cut : AreCut 0 ws ends
  pub within : length ends ≤ room
  pub places : 9 * room ≤ capacity
  pub end_places : room ≤ end_capacity
  pub small : 9 * room < 2 ^ 32
