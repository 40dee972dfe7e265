-- Counts of bytes.
use Rattle.std.specs.Prelude.{ℕ, ◌+◌, ◌-◌, ◌^◌, min}

-- the count with so many bytes more, until its last value
abbrev pub counted : ℕ → ℕ → ℕ
counted count bytes = min (count + bytes) (2 ^ 128 - 1)
