-- Laws of lists and numbers.
use Rattle.std.proofs.Common.{◌≡◌, ◌≢◌, ℕ, zero, suc, ◌+◌, ◌*◌, ◌^◌, ◌<◌, ◌≤◌, List, [], ◌∷◌, ◌++◌, length, take, drop, reverse, sum_by, map, All, Some, None, Option, IfNone, ◌⊎◌, inl, inr, slice_get, get_or, refl, sym, ap, ◌∙◌, arith, AllPairs}
use Rattle.std.proofs.lemmas.List.Elements.{All-append, All-cons, All-head, All-nil, All-tail, All-weaker}
use Rattle.std.proofs.lemmas.Bool.{cases_lt}
use Rattle.std.proofs.lemmas.List.{reverse-append, take-append-drop, length-reverse, length-drop}
use Rattle.std.proofs.Math.Seq.{take-suc, drop-append_seam}
use Rattle.std.proofs.lemmas.List.Kept.{AllPairs-cons}
use Rattle.std.proofs.lemmas.List.Sums.{sum_by-append}
use Rattle.std.proofs.Math.Nat.{pow-le-pow_right, mul-le-mul_right, one-le-pow, pow-succ'}

pub reverse-push : {X : Type 0} (xs : List X) (x : X) → reverse (xs ++ x ∷ []) ≡ x ∷ reverse xs
reverse-push xs x = reverse-append xs (x ∷ [])

-- of a list that is told from its end, the next item and what is left behind it
pub reverse-last : {X : Type 0} (xs : List X) (left k : ℕ) (x : X) → left ≡ suc k → left ≤ length xs → x ≡ get_or xs k x → reverse (take left xs) ≡ x ∷ reverse (take k xs)
reverse-last xs left k x e le g =
    let t : take (suc k) xs ≡ take k xs ++ get_or xs k x ∷ [] = take-suc xs k x (omega arith) in
    rw e (ap reverse t ∙ reverse-push (take k xs) (get_or xs k x) ∙ ap (λ y. y ∷ reverse (take k xs)) (sym g))

-- what is left of a reversed list behind so many
pub reverse-front : {X : Type 0} (xs : List X) (k n : ℕ) → k + n ≡ length xs → reverse (take k xs) ≡ drop n (reverse xs)
reverse-front xs k n e =
    let r : reverse xs ≡ reverse (drop k xs) ++ reverse (take k xs) = ap reverse (sym (take-append-drop k xs)) ∙ reverse-append (take k xs) (drop k xs) in
    let l : n ≡ length (reverse (drop k xs)) = omega (arith, length-reverse (drop k xs), length-drop k xs, e) in
    sym (ap (drop n) r ∙ ap (λ m. drop m (reverse (drop k xs) ++ reverse (take k xs))) l ∙ drop-append_seam (reverse (drop k xs)) (reverse (take k xs)))

-- one item more of two lists that begin alike
pub take-alike : {X : Type 0} (xs ys : List X) (i : ℕ) (x : X) → take i xs ≡ take i ys → i < length xs → i < length ys → get_or xs i x ≡ get_or ys i x → take (i + 1) xs ≡ take (i + 1) ys
take-alike xs ys i x e l m g =
    let s : i + 1 ≡ suc i = omega arith in
    rw s (take-suc xs i x l ∙ ap (λ zs. zs ++ get_or xs i x ∷ []) e ∙ ap (λ z. take i ys ++ z ∷ []) g ∙ sym (take-suc ys i x m))

pub empty_reverse : {X : Type 0} (xs : List X) → length xs ≡ 0 → reverse xs ≡ []
empty_reverse [] e = refl
empty_reverse (x ∷ xs) e = absurd (omega arith)

-- something that begins costs less than the step that waits for it
pub cost-lt : (b r q old new len : ℕ) → q < r → new < old → len + 2 ≤ b → (new * b ^ r + 1) + (len * b ^ q + 1) < old * b ^ r + 1
cost-lt b r q old new len qr less lb =
    let p : 1 ≤ b ^ q = one-le-pow q b (omega arith) in
    let m : b ^ suc q ≤ b ^ r = pow-le-pow_right {n = b} (omega arith) {i = suc q} {j = r} (omega arith) in
    let e : b ^ suc q ≡ b * b ^ q = pow-succ' b q in
    let k : (len + 2) * b ^ q ≤ b * b ^ q = mul-le-mul_right (b ^ q) lb in
    let n : (new + 1) * b ^ r ≤ old * b ^ r = mul-le-mul_right (b ^ r) (omega arith) in
    let d : (len + 2) * b ^ q ≡ len * b ^ q + 2 * b ^ q = omega arith in
    let d2 : (new + 1) * b ^ r ≡ new * b ^ r + b ^ r = omega arith in
    omega (arith, p, m, e, k, n, d, d2)

module _ {X : Type 0} (P : X → Type 0) where
  pub all-split : (xs ys : List X) → All P (xs ++ ys) → All P xs × All P ys
  all-split [] ys h = (All-nil P, h)
  all-split (x ∷ xs) ys h = let r = all-split xs ys (All-tail P x (xs ++ ys) h) in (All-cons P x xs (All-head P x (xs ++ ys) h) r.0, r.1)

  pub all-at : (xs : List X) (x : X) (ys : List X) → All P (xs ++ x ∷ ys) → P x
  all-at xs x ys h = All-head P x ys (all-split xs (x ∷ ys) h).1

  pub all-insert : (xs : List X) (x : X) (ys : List X) → P x → All P (xs ++ ys) → All P (xs ++ x ∷ ys)
  all-insert xs x ys p h = let r = all-split xs ys h in All-append P xs (x ∷ ys) r.0 (All-cons P x ys p r.1)

  pub all-one : (x : X) → P x → All P (x ∷ [])
  all-one x p = All-cons P x [] p (All-nil P)

pub all-unmap : {X Y : Type 0} (f : X → Y) (P : Y → Type 0) (xs : List X) → All P (map f xs) → All (λ x. P (f x)) xs
all-unmap f P [] h = All-nil (λ x. P (f x))
all-unmap f P (x ∷ xs) h = All-cons (λ x. P (f x)) x xs (All-head P (f x) (map f xs) h) (all-unmap f P xs (All-tail P (f x) (map f xs) h))

module _ {X : Type 0} (R : X → X → Type 0) where
  pub pairs-head : (x : X) (xs : List X) → AllPairs R (x ∷ xs) → All (R x) xs
  pairs-head x xs h = λ k d lt. h 0 (suc k) d (omega arith) (omega arith)

  pub pairs-tail : (x : X) (xs : List X) → AllPairs R (x ∷ xs) → AllPairs R xs
  pairs-tail x xs h = λ i j d lt le. h (suc i) (suc j) d (omega arith) (omega arith)

-- lists in which no two items are the same
module _ {X : Type 0} where
  abbrev Apart : X → X → Type 0
  Apart x y = x ≢ y

  pub distinct-one : (x : X) → AllPairs (λ x y. x ≢ y) (x ∷ [])
  distinct-one x = λ i j d lt le. absurd (omega arith)

  pub distinct-insert : (xs : List X) (x : X) (ys : List X) → AllPairs (λ x y. x ≢ y) (xs ++ ys) → All (λ y. y ≢ x) (xs ++ ys) → AllPairs (λ x y. x ≢ y) (xs ++ x ∷ ys)
  distinct-insert [] x ys d e = AllPairs-cons Apart x ys (All-weaker (λ y. y ≢ x) (Apart x) (λ y n h. n (sym h)) ys e) d
  distinct-insert (z ∷ xs) x ys d e =
      let zs : List X = xs ++ ys in
      AllPairs-cons Apart z (xs ++ x ∷ ys) (all-insert (Apart z) xs x ys (All-head (λ y. y ≢ x) z zs e) (pairs-head Apart z zs d)) (distinct-insert xs x ys (pairs-tail Apart z zs d) (All-tail (λ y. y ≢ x) z zs e))

  pub distinct-apart : (xs : List X) (x : X) (ys : List X) → AllPairs (λ x y. x ≢ y) (xs ++ x ∷ ys) → All (λ y. y ≢ x) xs
  distinct-apart [] x ys d = All-nil (λ y. y ≢ x)
  distinct-apart (z ∷ xs) x ys d =
      let zs : List X = xs ++ x ∷ ys in
      All-cons (λ y. y ≢ x) z xs (all-at (Apart z) xs x ys (pairs-head Apart z zs d)) (distinct-apart xs x ys (pairs-tail Apart z zs d))

  -- equal items stand at one place
  pub one-place : (xs : List X) (i j : ℕ) (d : X) → AllPairs (λ x y. x ≢ y) xs → i < length xs → j < length xs → get_or xs i d ≡ get_or xs j d → i ≡ j
  one-place xs i j d a hi hj e = by_order (cases_lt i j) (cases_lt j i)
    where
      by_order : (i < j) ⊎ (j ≤ i) → (j < i) ⊎ (i ≤ j) → i ≡ j
      by_order (inl l) m = absurd (a i j d l hj e)
      by_order (inr g) (inl l) = absurd (a j i d l hi (sym e))
      by_order (inr g) (inr h) = omega arith

pub sum-insert : {X : Type 0} (f : X → ℕ) (xs : List X) (x : X) (ys : List X) → sum_by f (xs ++ x ∷ ys) ≡ f x + sum_by f (xs ++ ys)
sum-insert f xs x ys = omega (arith, sum_by-append f xs (x ∷ ys), sum_by-append f (x ∷ []) ys, sum_by-append f xs ys)

pub slice_get-map : {X Y : Type 0} (f : X → Y) (xs : List X) (i : ℕ) (x : X) → slice_get xs i ≡ Some x → slice_get (map f xs) i ≡ Some (f x)
slice_get-map f [] i x e = absurd (cc)
slice_get-map f (y ∷ ys) zero x e = let q : y ≡ x = cc in ap (λ z. Some (f z)) q
slice_get-map f (y ∷ ys) (suc i) x e = slice_get-map f ys i x e

pub slice_get-at : {X : Type 0} (xs : List X) (i : ℕ) (x d : X) → slice_get xs i ≡ Some x → (i < length xs) × (get_or xs i d ≡ x)
slice_get-at [] i x d e = absurd (cc)
slice_get-at (y ∷ ys) zero x d e = (omega arith, cc)
slice_get-at (y ∷ ys) (suc i) x d e = let r = slice_get-at ys i x d e in (omega (arith, r.0), r.1)

pub all-get : {X : Type 0} (P : X → Type 0) (xs : List X) (i : ℕ) (x : X) → All P xs → slice_get xs i ≡ Some x → P x
all-get P xs i x h e = let r = slice_get-at xs i x x e in rw r.1 at (h i x r.0)

pub no_more : {X : Type 0} (o : Option X) → ((x : X) → o ≡ Some x → ⊥) → o ≡ None
no_more None h = refl
no_more (Some x) h = absurd (h x refl)

pub none-then : {X : Type 0} (r : Option X) (P Q : Type 0) → IfNone r P → (P → Q) → IfNone r Q
none-then None P Q h f = f h
none-then (Some x) P Q h f = tt

pub one_item : {X : Type 0} (xs : List X) (d : X) → length xs ≡ 1 → xs ≡ get_or xs 0 d ∷ []
one_item [] d e = absurd (omega arith)
one_item (x ∷ []) d e = refl
one_item (x ∷ y ∷ xs) d e = absurd (omega arith)
