-- Two lists, one behind the other.
use Rattle.std.proofs.Common.{◌≡◌, ℕ, zero, suc, ◌+◌, ◌<◌, List, [], ◌∷◌, ◌++◌, length, get_or, slice_get, Option, None, ap, refl, arith}
use Rattle.rule_arena.specs.declared.key.Key.{Key}

-- a place is in the first of two lists or in the second
pub data Side (m p : ℕ) : Type 0 where
  first : p < m → Side m p
  second : (q : ℕ) → p ≡ m + q → Side m p

pub side : (m p : ℕ) → Side m p
side zero p = second p (omega arith)
side (suc m) zero = first (omega arith)
side (suc m) (suc p) = up (side m p)
  where
    up : Side m p → Side (suc m) (suc p)
    up (first h) = first (omega arith)
    up (second q e) = second q (omega arith)

pub get-left : (xs ys : List (Option (Key × ℕ))) (p : ℕ) → p < length xs → get_or (xs ++ ys) p None ≡ get_or xs p None
get-left [] ys p h = absurd (omega arith)
get-left (x ∷ xs) ys zero h = refl
get-left (x ∷ xs) ys (suc p) h = get-left xs ys p (omega arith)

pub get-right : (xs ys : List (Option (Key × ℕ))) (p q : ℕ) → p ≡ length xs + q → get_or (xs ++ ys) p None ≡ get_or ys q None
get-right [] ys p q e = let z : p ≡ q = omega arith in ap (λ (k : ℕ). get_or ys k None) z
get-right (x ∷ xs) ys zero q e = absurd (omega arith)
get-right (x ∷ xs) ys (suc p) q e = get-right xs ys p q (omega arith)

pub key-left : (xs ys : List Key) (p : ℕ) → p < length xs → slice_get (xs ++ ys) p ≡ slice_get xs p
key-left [] ys p h = absurd (omega arith)
key-left (x ∷ xs) ys zero h = refl
key-left (x ∷ xs) ys (suc p) h = key-left xs ys p (omega arith)

pub key-right : (xs ys : List Key) (p q : ℕ) → p ≡ length xs + q → slice_get (xs ++ ys) p ≡ slice_get ys q
key-right [] ys p q e = let z : p ≡ q = omega arith in ap (λ (k : ℕ). slice_get ys k) z
key-right (x ∷ xs) ys zero q e = absurd (omega arith)
key-right (x ∷ xs) ys (suc p) q e = key-right xs ys p q (omega arith)
