-- What an index tells of entries.
use Rattle.std.specs.Prelude.{◌≡◌, ◌++◌, ◌≤◌, ◌⊎◌, ℕ, zero, suc, Bool, List, [], ◌∷◌, Some, Contains, length, slice_get}
use Rattle.std.specs.Map.{lookup}
use Rattle.arrayvec.specs.ArrayVec.{ArrayVec}

-- the places that are kept for a number
abbrev pub places_at : List (ArrayVec ℕ) → ℕ → List ℕ
places_at [] number = []
places_at (places ∷ first) zero = places.items
places_at (places ∷ first) (suc number) = places_at first number

-- for each number there are as many places or more, the same ones first
abbrev pub Grows : List (ArrayVec ℕ) → List (ArrayVec ℕ) → Type 0
Grows old new = (number : ℕ) → (more : List ℕ) × (places_at new number ≡ places_at old number ++ more)

-- a place is kept for the number of its key; or as many as may be are kept for that, and the others name the place under the key
abbrev pub IsFound : {K : Type 0} → (K → K → Bool) → (K → ℕ) → ℕ → List (ArrayVec ℕ) → List (K × ℕ) → ℕ → K → Type 0
IsFound E number few first others place k =
    Contains (places_at first (number k)) place ⊎ ((few ≤ length (places_at first (number k))) × (lookup (E k) others ≡ Some place))

-- the entry at a place stands under this key
abbrev pub StandsIn : {K X : Type 0} → List (K × X) → ℕ → K → Type 0
StandsIn {X = X} entries place k = (x : X) × (slice_get entries place ≡ Some (k, x))

-- each entry's place is found by its key
pub record IsIndexed {K : Type 0} (E : K → K → Bool) (number : K → ℕ) (few : ℕ) (Stands : ℕ → K → Type 0) (first : List (ArrayVec ℕ)) (others : List (K × ℕ)) : Type 0 where
  pub finds : (place : ℕ) (k : K) → Stands place k → IsFound E number few first others place k
