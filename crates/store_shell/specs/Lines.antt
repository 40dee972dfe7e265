-- The lines of a script.
use Rattle.std.specs.Prelude.{◌≡◌, ◌≢◌, ℕ, List, [], ◌∷◌, ◌++◌, All, length, nat_le, nat_lt, Option, Some, None, if◌then◌else◌}
use Rattle.std.specs.List.{flat_map}

-- no line feed is among these bytes
abbrev pub IsOneLine : List ℕ → Type 0
IsOneLine bytes = All (λ byte. byte ≢ 10) bytes

-- a line with the line feed that ends it
abbrev pub ended : List ℕ → List ℕ
ended line = line ++ 10 ∷ []

-- the bytes are these lines, each with its line feed, and then the tail, which no line feed ends
pub record IsCut (bytes : List ℕ) (lines : List (List ℕ)) (tail : List ℕ) : Type 0 where
  pub whole : bytes ≡ flat_map ended lines ++ tail
  pub each : All IsOneLine lines
  pub rest : IsOneLine tail

-- how many bytes a line may have
abbrev pub longest : ℕ
longest = 1048576

-- a line, where it isn't too long
unfoldable pub kept : List ℕ → Option (List ℕ)
kept line = if nat_le (length line) longest then Some line else None

-- one byte more
abbrev pub pushed : Option (List ℕ) → ℕ → Option (List ℕ)
pushed None byte = None
pushed (Some line) byte = if nat_lt (length line) longest then Some (line ++ byte ∷ []) else None
