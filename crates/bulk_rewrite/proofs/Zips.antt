-- Lists whose items go together place by place.
use Rattle.std.proofs.Common.{◌≡◌, ℕ, zero, suc, ◌+◌, ◌≤◌, List, [], ◌∷◌, ◌++◌, length, take, Some, slice_get, slice_index_or, subst, add-one, take_all}
use Rattle.std.specs.List.{AllZip}

module _ {X Y : Type 0} where
  pub zip-append : (R : X → Y → Type 0) (xs us : List X) (ys vs : List Y) → AllZip R xs ys → AllZip R us vs → AllZip R (xs ++ us) (ys ++ vs)
  zip-append R [] us [] vs a b = b
  zip-append R [] us (y ∷ ys) vs a b = absurd a
  zip-append R (x ∷ xs) us [] vs a b = absurd a
  zip-append R (x ∷ xs) us (y ∷ ys) vs a b = (a.0, zip-append R xs us ys vs a.1 b)

  pub zip-weaker : (R Q : X → Y → Type 0) → ((x : X) (y : Y) → R x y → Q x y) → (xs : List X) (ys : List Y) → AllZip R xs ys → AllZip Q xs ys
  zip-weaker R Q w [] [] a = tt
  zip-weaker R Q w [] (y ∷ ys) a = absurd a
  zip-weaker R Q w (x ∷ xs) [] a = absurd a
  zip-weaker R Q w (x ∷ xs) (y ∷ ys) a = (w x y a.0, zip-weaker R Q w xs ys a.1)

  -- one more of the first items of a list
  zip-one : (R : X → Y → Type 0) (xs : List X) (ys : List Y) (i : ℕ) (x : X) (y : Y) → AllZip R (take i xs) ys → slice_get xs i ≡ Some x → R x y → AllZip R (take (suc i) xs) (ys ++ y ∷ [])
  zip-one R [] ys i x y a e r = absurd (cc)
  zip-one R (z ∷ xs) [] zero x y a e r = let s : x ≡ z = cc in (subst (λ w. R w y) s r, tt)
  zip-one R (z ∷ xs) (v ∷ ys) zero x y a e r = absurd a
  zip-one R (z ∷ xs) [] (suc i) x y a e r = absurd a
  zip-one R (z ∷ xs) (v ∷ ys) (suc i) x y a e r = (a.0, zip-one R xs ys i x y a.1 e r)

  pub zip-push : (R : X → Y → Type 0) (xs : List X) (ys new : List Y) (i : ℕ) (x : X) (y : Y) → AllZip R (take i xs) ys → slice_get xs i ≡ Some x → R x y → new ≡ ys ++ y ∷ [] → AllZip R (take (i + 1) xs) new
  zip-push R xs ys new i x y a e r n = rw (n, add-one i) (zip-one R xs ys i x y a e r)

  pub zip-whole : (R : X → Y → Type 0) (xs : List X) (ys : List Y) (i : ℕ) → length xs ≤ i → AllZip R (take i xs) ys → AllZip R xs ys
  zip-whole R xs ys i h a = subst (λ zs. AllZip R zs ys) (take_all i xs h) a

  pub zip-at : (R : X → Y → Type 0) (xs : List X) (ys : List Y) (i : ℕ) (x : X) (d : Y) → AllZip R xs ys → slice_get xs i ≡ Some x → R x (slice_index_or ys i d)
  zip-at R [] ys i x d a e = absurd (cc)
  zip-at R (z ∷ xs) [] i x d a e = absurd a
  zip-at R (z ∷ xs) (y ∷ ys) zero x d a e = let s : z ≡ x = cc in subst (λ w. R w y) s a.0
  zip-at R (z ∷ xs) (y ∷ ys) (suc i) x d a e = zip-at R xs ys i x d a.1 e

  -- what holds of each item of the second list holds at each place
  pub zip-each : (R : X → Y → Type 0) (P : Y → Type 0) (d : Y) → P d → ((x : X) (y : Y) → R x y → P y) → (xs : List X) (ys : List Y) (i : ℕ) → AllZip R xs ys → P (slice_index_or ys i d)
  zip-each R P d p w [] [] i a = p
  zip-each R P d p w [] (y ∷ ys) i a = absurd a
  zip-each R P d p w (x ∷ xs) [] i a = absurd a
  zip-each R P d p w (x ∷ xs) (y ∷ ys) zero a = w x y a.0
  zip-each R P d p w (x ∷ xs) (y ∷ ys) (suc i) a = zip-each R P d p w xs ys i a.1
