-- Items of lists by their places.
use Rattle.std.proofs.Common.{◌≡◌, ◌≢◌, ◌⊎◌, inl, inr, ℕ, zero, suc, ◌+◌, ◌-◌, ◌<◌, ◌≤◌, List, [], ◌∷◌, ◌++◌, length, take, drop, set, Some, None, slice_get, refl, ap, arith}

-- an item of two lists is from one of them
pub get-append : {X : Type 0} (xs ys : List X) (j : ℕ) (k : X) → slice_get (xs ++ ys) j ≡ Some k → ((j < length xs) × (slice_get xs j ≡ Some k)) ⊎ ((length xs ≤ j) × (slice_get ys (j - length xs) ≡ Some k))
get-append [] ys j k e = let z : j - 0 ≡ j = omega arith in inr (omega arith, rw z e)
get-append (x ∷ xs) ys zero k e = inl (omega arith, e)
get-append (x ∷ xs) ys (suc j) k e = elim (get-append xs ys j k e) [
  | inl h ↦ inl (omega (arith, h.0), h.1)
  | inr h ↦ inr (omega (arith, h.0), let z : suc j - suc (length xs) ≡ j - length xs = omega arith in rw z h.1)
]

-- an item of a front, and of what is left of a list
pub get-take : {X : Type 0} (n : ℕ) (xs : List X) (j : ℕ) (k : X) → slice_get (take n xs) j ≡ Some k → (j < n) × (slice_get xs j ≡ Some k)
get-take zero xs j k e = absurd (cc)
get-take (suc n) [] j k e = absurd (cc)
get-take (suc n) (x ∷ xs) zero k e = (omega arith, e)
get-take (suc n) (x ∷ xs) (suc j) k e = let h = get-take n xs j k e in (omega (arith, h.0), h.1)

pub get-drop : {X : Type 0} (n : ℕ) (xs : List X) (j : ℕ) (k : X) → slice_get (drop n xs) j ≡ Some k → slice_get xs (n + j) ≡ Some k
get-drop zero [] j k e = absurd (cc)
get-drop zero (x ∷ xs) j k e = let z : 0 + j ≡ j = omega arith in rw z e
get-drop (suc n) [] j k e = absurd (cc)
get-drop (suc n) (x ∷ xs) j k e = let z : suc n + j ≡ suc (n + j) = omega arith in rw z (get-drop n xs j k e)

pub length-take-within : {X : Type 0} (n : ℕ) (xs : List X) (k : X) → slice_get xs n ≡ Some k → length (take n xs) ≡ n
length-take-within zero xs k e = refl
length-take-within (suc n) [] k e = absurd (cc)
length-take-within (suc n) (x ∷ xs) k e = ap suc (length-take-within n xs k e)

pub get-past : {X : Type 0} (xs : List X) (j : ℕ) → length xs ≤ j → slice_get xs j ≡ None
get-past [] j h = refl
get-past (x ∷ xs) zero h = absurd (omega arith)
get-past (x ∷ xs) (suc j) h = get-past xs j (omega arith)

-- an item that is set, and the others
pub set_same : {X : Type 0} (xs : List X) (j : ℕ) (x y : X) → slice_get (set xs j x) j ≡ Some y → y ≡ x
set_same [] j x y e = absurd (cc)
set_same (m ∷ xs) zero x y e = cc
set_same (m ∷ xs) (suc j) x y e = set_same xs j x y e

pub set_other : {X : Type 0} (xs : List X) (j : ℕ) (x : X) (i : ℕ) → i ≢ j → slice_get xs i ≡ slice_get (set xs j x) i
set_other [] j x i n = refl
set_other (m ∷ xs) zero x zero n = absurd (n refl)
set_other (m ∷ xs) zero x (suc i) n = refl
set_other (m ∷ xs) (suc j) x zero n = refl
set_other (m ∷ xs) (suc j) x (suc i) n = set_other xs j x i (λ e. n (ap suc e))
