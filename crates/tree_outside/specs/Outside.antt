-- What the calls of a source and a sink do, and when they fail.
use Rattle.std.specs.Prelude.{◌≡◌, ◌≤◌, ◌+◌, ◌-◌, ◌^◌, min, ℕ, List, [], ◌++◌, take, Option, Some, Result, IfSome, OnErr, MatchResult}

-- A count rose, or stands at its last value.
abbrev pub Rose : ℕ → ℕ → Type 0
Rose before now = min (before + 1) (2 ^ 64 - 1) ≤ now

-- The count doesn't fall, and a call fails only where it rose.
pub record HasCause {T E : Type 0} (before now : ℕ) (result : Result T E) : Type 0 where
  pub later : before ≤ now
  pub failed : OnErr result (Rose before now)

-- What is told stays.
abbrev pub Stays : {A : Type 0} → Option A → Option A → Type 0
Stays old new = IfSome old (λ a. new ≡ Some a)

-- These bytes were taken from the front of what is left.
abbrev pub Takes : Option (List ℕ) → Option (List ℕ) → List ℕ → Type 0
Takes old new bytes = IfSome old (λ all. (rest : List ℕ) × (all ≡ bytes ++ rest) × (new ≡ Some rest))

-- These bytes were added to what was got.
abbrev pub Gets : Option (List ℕ) → Option (List ℕ) → List ℕ → Type 0
Gets old new bytes = IfSome old (λ got. new ≡ Some (got ++ bytes))

abbrev pub IsFront : List ℕ → List ℕ → Type 0
IsFront front all = (rest : List ℕ) × (all ≡ front ++ rest)

-- A front of these bytes was added, where it is still told what was got.
abbrev pub GetsFront : Option (List ℕ) → Option (List ℕ) → List ℕ → Type 0
GetsFront old new bytes = IfSome old (λ got. IfSome new (λ now. (front : List ℕ) × IsFront front bytes × (now ≡ got ++ front)))

-- A read took the first n bytes, none only where none is left; a read that failed took none.
abbrev pub Reads : {E : Type 0} → Option (List ℕ) → Option (List ℕ) → Result ℕ E → List ℕ → Type 0
Reads old new result buf = MatchResult result
    (λ n. Takes old new (take n buf) × (n ≡ 0 → IfSome old (λ all. all ≡ [])))
    (λ _. Stays old new)

-- A write added all, or a front.
abbrev pub Writes : {E : Type 0} → Option (List ℕ) → Option (List ℕ) → Result (Unit {0}) E → List ℕ → Type 0
Writes old new result bytes = MatchResult result (λ _. Gets old new bytes) (λ _. GetsFront old new bytes)
