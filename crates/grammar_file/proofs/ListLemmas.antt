-- What is left of a list behind a place.
use Rattle.std.proofs.Common.{◌≡◌, ℕ, zero, suc, ◌+◌, List, [], ◌∷◌, drop, refl, ◌∙◌, add-one}
use Rattle.std.specs.Prelude.{Some, None, slice_get}

drop-suc : {A : Type 0} (xs : List A) (i : ℕ) (x : A) → slice_get xs i ≡ Some x → drop i xs ≡ x ∷ drop (suc i) xs
drop-suc [] i x e = cc
drop-suc (y ∷ ys) zero x e = cc
drop-suc (y ∷ ys) (suc i) x e = drop-suc ys i x e

-- what is left begins with the item at the place
pub drop-at : {A : Type 0} (xs : List A) (i : ℕ) (x : A) → slice_get xs i ≡ Some x → drop i xs ≡ x ∷ drop (i + 1) xs
drop-at xs i x e = drop-suc xs i x e ∙ rw (add-one i) refl

-- where no item is, none is left
pub drop-none : {A : Type 0} (xs : List A) (i : ℕ) → slice_get xs i ≡ None → drop i xs ≡ []
drop-none [] zero e = refl
drop-none [] (suc i) e = refl
drop-none (x ∷ xs) zero e = cc
drop-none (x ∷ xs) (suc i) e = drop-none xs i e
