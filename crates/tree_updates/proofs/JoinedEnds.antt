-- Lists without some items at their ends.
use Rattle.std.proofs.Common.{◌≡◌, ℕ, zero, suc, ◌+◌, ◌-◌, ◌≤◌, List, [], ◌∷◌, ◌++◌, length, take, drop, ap, sym, ◌∙◌, arith, Some}
use Rattle.std.specs.Prelude.{slice_get}
use Rattle.tree_updates.specs.Joinings.{middle}

take-next : {X : Type 0} (xs : List X) (i : ℕ) (x : X) → slice_get xs i ≡ Some x → take (i + 1) xs ≡ take i xs ++ x ∷ []
take-next [] i x e = absurd cc
take-next (y ∷ xs) zero x e = let z : y ≡ x = cc in ap (λ v. v ∷ []) z
take-next (y ∷ xs) (suc i) x e = let z : suc i + 1 ≡ suc (i + 1) = omega arith in ap (λ (k : ℕ). take k (y ∷ xs)) z ∙ ap (λ ys. y ∷ ys) (take-next xs i x e)

-- one item more
pub middle-next : {X : Type 0} (from : ℕ) (xs : List X) (i : ℕ) (x : X) → from ≤ i → slice_get xs i ≡ Some x → take (i + 1 - from) (drop from xs) ≡ take (i - from) (drop from xs) ++ x ∷ []
middle-next zero xs i x l e =
    let a : i + 1 - 0 ≡ i + 1 = omega arith in
    let b : i - 0 ≡ i = omega arith in
    ap (λ (k : ℕ). take k xs) a ∙ take-next xs i x e ∙ ap (λ (k : ℕ). take k xs ++ x ∷ []) (sym b)
middle-next (suc from) [] i x l e = absurd cc
middle-next (suc from) (y ∷ xs) zero x l e = absurd (omega (arith, l))
middle-next (suc from) (y ∷ xs) (suc i) x l e =
    let a : suc i + 1 - suc from ≡ i + 1 - from = omega arith in
    let b : suc i - suc from ≡ i - from = omega arith in
    ap (λ (k : ℕ). take k (drop from xs)) a ∙ middle-next from xs i x (omega (arith, l)) e ∙ ap (λ (k : ℕ). take k (drop from xs) ++ x ∷ []) (sym b)

pub middle-starts : {X : Type 0} (from : ℕ) (xs : List X) → [] ≡ take (from - from) (drop from xs)
middle-starts from xs = let z : from - from ≡ 0 = omega arith in ap (λ (k : ℕ). take k (drop from xs)) (sym z)

-- all items between the ends were met
pub middle-done : {X : Type 0} (xs : List X) (at from back many front' back' : ℕ) → from ≤ at → many ≡ length xs → from ≡ front' → back ≡ back' → front' + back' ≤ length xs → many - back ≤ at → at ≤ many - back → take (at - from) (drop from xs) ≡ middle front' back' xs
middle-done xs at from back many front' back' l m f b h low high =
    let z : at - from ≡ length xs - (front' + back') = omega (arith, m, f, b, h, low, high) in
    ap (λ (k : ℕ). take k (drop from xs)) z ∙ ap (λ (k : ℕ). take (length xs - (front' + back')) (drop k xs)) f
