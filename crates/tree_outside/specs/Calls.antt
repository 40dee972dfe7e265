-- The calls of an object in memory: which of them fail, and how many were made and have failed.
use Rattle.std.specs.Prelude.{◌≡◌, ◌⊎◌, ◌+◌, ◌-◌, ◌^◌, min, ℕ, List, Contains, Result, IsErr, is_err, if◌then◌else◌}

pub record Calls : Type 0 where
  -- the numbers, from 0, of the calls that fail
  pub fails : List ℕ
  pub made : ℕ
  pub faults : ℕ

-- one more, until the last value
abbrev pub counted : ℕ → ℕ
counted n = min (n + 1) (2 ^ 64 - 1)

-- the next call is one of those that fail
abbrev pub IsDue : Calls → Type 0
IsDue c = Contains c.fails c.made

abbrev pub begun : Calls → Calls
begun c = record c { made = counted c.made }

abbrev pub failed : Calls → Calls
failed c = record c { faults = counted c.faults }

-- A call is counted, and as a fault too where it fails. It fails where it is due; else only where this holds.
pub record IsCounted {T E : Type 0} (old new : Calls) (result : Result T E) (grows : Type 0) : Type 0 where
  pub counted : new ≡ (if is_err result then failed (begun old) else begun old)
  pub due : IsDue old → IsErr result
  pub only : IsErr result → IsDue old ⊎ grows
