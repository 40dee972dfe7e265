-- The arguments of commands: a word, and what stands behind it.
use Rattle.std.specs.Prelude.{◌≡◌, ◌≢◌, ◌<◌, ◌⊎◌, ◌^◌, ℕ, List, [], ◌∷◌, ◌++◌, All, decimal}

abbrev pub HasNoSpace : List ℕ → Type 0
HasNoSpace word = All (λ byte. byte ≢ 32) word

-- these bytes behind a word and one space; where there are none, the space may be missing
abbrev pub IsBegun : List ℕ → List ℕ → List ℕ → Type 0
IsBegun arguments word bytes = (arguments ≡ word ++ 32 ∷ bytes) ⊎ ((bytes ≡ []) × (arguments ≡ word))

-- behind a number below 2^64
abbrev pub IsNumbered : List ℕ → ℕ → List ℕ → Type 0
IsNumbered arguments number bytes = (number < 2 ^ 64) × IsBegun arguments (decimal number) bytes

-- behind a name, which isn't empty
abbrev pub IsNamed : List ℕ → List ℕ → List ℕ → Type 0
IsNamed arguments name bytes = (name ≢ []) × HasNoSpace name × IsBegun arguments name bytes
