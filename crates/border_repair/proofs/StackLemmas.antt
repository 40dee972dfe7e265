-- Lists that are read from their ends.
use Rattle.std.proofs.Common.{◌≡◌, ℕ, zero, suc, ◌≤◌, ◌+◌, List, [], ◌∷◌, ◌++◌, length, take, drop, reverse, insert, set, slice_get, Some, length-drop, ◌-◌, refl, ap, sym, ◌∙◌, arith, append_assoc, length-append}
use Rattle.std.proofs.lemmas.List.{reverse-append, reverse-reverse, length-reverse, take-append-drop}
use Rattle.border_repair.proofs.Split.{take_all, drop_all}

module _ {A : Type 0} where
  pub stack-split : (xs a b : List A) → reverse xs ≡ a ++ b → xs ≡ reverse b ++ reverse a
  stack-split xs a b e = sym (reverse-reverse xs) ∙ ap reverse e ∙ reverse-append a b

  pub stack-take : (xs a b : List A) (n : ℕ) → reverse xs ≡ a ++ b → n ≡ length b → reverse (take n xs) ≡ b
  stack-take xs a b n e l = ap (λ ys. reverse (take n ys)) (stack-split xs a b e) ∙ ap reverse (take_all n (reverse b) (reverse a) (length-reverse b ∙ sym l)) ∙ reverse-reverse b

  pub stack-drop : (xs a b : List A) (n : ℕ) → reverse xs ≡ a ++ b → n ≡ length b → reverse (drop n xs) ≡ a
  stack-drop xs a b n e l = ap (λ ys. reverse (drop n ys)) (stack-split xs a b e) ∙ ap reverse (drop_all n (reverse b) (reverse a) (length-reverse b ∙ sym l)) ∙ reverse-reverse a

  insert-between : (y : A) (n : ℕ) (a b : List A) → length a ≡ n → insert (a ++ b) n y ≡ a ++ y ∷ b
  insert-between y zero [] b l = inserted b where
    inserted : (b : List A) → insert b 0 y ≡ y ∷ b
    inserted b = refl
  insert-between y zero (x ∷ a) b l = absurd (omega arith)
  insert-between y (suc n) [] b l = absurd (omega arith)
  insert-between y (suc n) (x ∷ a) b l = ap (λ z. x ∷ z) (insert-between y n a b (omega arith))

  pub stack-insert : (xs a b : List A) (n : ℕ) (y : A) → reverse xs ≡ a ++ b → n ≡ length b → reverse (insert xs n y) ≡ a ++ y ∷ b
  stack-insert xs a b n y e l =
      ap (λ ys. reverse (insert ys n y)) (stack-split xs a b e) ∙ ap reverse (insert-between y n (reverse b) (reverse a) (length-reverse b ∙ sym l))
      ∙ reverse-append (reverse b) (y ∷ reverse a) ∙ ap (λ z. z ++ reverse (reverse b)) (reverse-append (y ∷ []) (reverse a))
      ∙ ap (λ z. (z ++ y ∷ []) ++ reverse (reverse b)) (reverse-reverse a) ∙ ap (λ z. (a ++ y ∷ []) ++ z) (reverse-reverse b) ∙ append_assoc a (y ∷ []) b

  pub stack-push : (xs : List A) (y : A) → reverse (xs ++ y ∷ []) ≡ y ∷ reverse xs
  stack-push xs y = reverse-append xs (y ∷ [])

  pub stack-popped : (xs ys : List A) (x : A) → xs ≡ ys ++ x ∷ [] → reverse xs ≡ x ∷ reverse ys
  stack-popped xs ys x e = ap reverse e ∙ stack-push ys x

  pub take-rest : (n : ℕ) (xs : List A) → length xs ≤ n → take n xs ≡ xs
  take-rest zero [] l = refl
  take-rest zero (x ∷ xs) l = absurd (omega arith)
  take-rest (suc n) [] l = refl
  take-rest (suc n) (x ∷ xs) l = ap (λ z. x ∷ z) (take-rest n xs (omega arith))

  pub slice-end : (xs ys : List A) (n : ℕ) → xs ≡ ys → take (length xs - n) (drop n xs) ≡ drop n ys
  slice-end xs ys n e = take-rest (length xs - n) (drop n xs) (omega (arith, length-drop n xs)) ∙ ap (drop n) e

  pub no-items : (xs : List A) → length xs ≡ 0 → reverse xs ≡ []
  no-items [] n = refl
  no-items (x ∷ xs) n = absurd (omega arith)

  -- what stands at a place, and at the same place from the end
  pub split-at : (xs : List A) (at : ℕ) (y : A) → slice_get xs at ≡ Some y → reverse xs ≡ reverse (drop (suc at) xs) ++ y ∷ reverse (take at xs)
  split-at [] at y e = absurd cc
  split-at (x ∷ xs) zero y e = let s : x ≡ y = cc in reverse-append (x ∷ []) xs ∙ ap (λ z. reverse xs ++ z ∷ []) s
  split-at (x ∷ xs) (suc at) y e =
      reverse-append (x ∷ []) xs ∙ ap (λ z. z ++ x ∷ []) (split-at xs at y e) ∙ append_assoc (reverse (drop (suc at) xs)) (y ∷ reverse (take at xs)) (x ∷ [])
      ∙ ap (λ z. reverse (drop (suc at) xs) ++ y ∷ z) (sym (reverse-append (x ∷ []) (take at xs)))

  pub at-split : (xs a b : List A) (y : A) → reverse xs ≡ a ++ y ∷ b → slice_get xs (length b) ≡ Some y
  at-split xs a b y e =
      ap (λ ys. slice_get ys (length b)) (stack-split xs a (y ∷ b) e ∙ ap (λ z. z ++ reverse a) (reverse-append (y ∷ []) b) ∙ append_assoc (reverse b) (y ∷ []) (reverse a))
      ∙ seam (reverse b) (length b) (length-reverse b) where
        seam : (ys : List A) (n : ℕ) → length ys ≡ n → slice_get (ys ++ y ∷ reverse a) n ≡ Some y
        seam [] zero l = refl
        seam [] (suc n) l = absurd (omega arith)
        seam (z ∷ ys) zero l = absurd (omega arith)
        seam (z ∷ ys) (suc n) l = seam ys n (omega arith)

  pub length-split : (xs a b : List A) (y : A) → reverse xs ≡ a ++ y ∷ b → length xs ≡ suc (length a + length b)
  length-split xs a b y e = omega (arith, ap length e, length-reverse xs, length-append a (y ∷ b))

  pub stack-cut : (xs : List A) (k : ℕ) → reverse (take (length xs - k) xs) ≡ drop k (reverse xs)
  stack-cut xs k = stack-take xs (take k (reverse xs)) (drop k (reverse xs)) (length xs - k) (sym (take-append-drop k (reverse xs))) (omega (arith, length-drop k (reverse xs), length-reverse xs))

  set-between : (y z : A) (n : ℕ) (a b : List A) → length a ≡ n → set (a ++ y ∷ b) n z ≡ a ++ z ∷ b
  set-between y z zero [] b l = refl
  set-between y z zero (x ∷ a) b l = absurd (omega arith)
  set-between y z (suc n) [] b l = absurd (omega arith)
  set-between y z (suc n) (x ∷ a) b l = ap (λ w. x ∷ w) (set-between y z n a b (omega arith))

  -- another item at a place from the end
  pub stack-set : (xs a b : List A) (n : ℕ) (y z : A) → reverse xs ≡ a ++ y ∷ b → n ≡ length b → reverse (set xs n z) ≡ a ++ z ∷ b
  stack-set xs a b n y z e l =
      let s : xs ≡ reverse b ++ y ∷ reverse a = stack-split xs a (y ∷ b) e ∙ ap (λ w. w ++ reverse a) (reverse-append (y ∷ []) b) ∙ append_assoc (reverse b) (y ∷ []) (reverse a) in
      ap (λ ys. reverse (set ys n z)) s ∙ ap reverse (set-between y z n (reverse b) (reverse a) (length-reverse b ∙ sym l))
      ∙ reverse-append (reverse b) (z ∷ reverse a) ∙ ap (λ w. w ++ reverse (reverse b)) (reverse-append (z ∷ []) (reverse a))
      ∙ ap (λ w. (w ++ z ∷ []) ++ reverse (reverse b)) (reverse-reverse a) ∙ ap (λ w. (a ++ z ∷ []) ++ w) (reverse-reverse b) ∙ append_assoc a (z ∷ []) b
