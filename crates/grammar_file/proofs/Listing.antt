-- Lists that are put one item after another, and how long they are.
use Rattle.std.proofs.Common.{◌≡◌, ℕ, ◌+◌, ◌*◌, ◌≤◌, List, [], ◌∷◌, ◌++◌, length, refl, ap, ◌∙◌, subst, arith, length-append}
use Rattle.std.specs.Prelude.{Result, Ok, Err}
use Rattle.std.specs.List.{flat_map}
use Rattle.tree_outside.specs.declared.traits.Failed.{Failed}
use Rattle.grammar_file.specs.Buffers.{Seen, Puts}
use Rattle.grammar_file.proofs.Putting.{IsPutting, putting_goes, putting_fails, putting_done}

-- the sizes of all items together
abbrev pub sizes : {A : Type 0} → (A → ℕ) → List A → ℕ
sizes size [] = 0
sizes size (x ∷ xs) = size x + sizes size xs

-- the items before these were put, and none was longer than its size
pub record IsListing {A : Type 0} (f : A → List ℕ) (size : A → ℕ) (xs : List A) (whole : List ℕ) (left : List A) (old now : Seen) : Type 0 where
  pub putting : IsPutting old now whole (flat_map f left)
  pub short : length (flat_map f xs) + sizes size left ≤ sizes size xs + length (flat_map f left)

module _ {A : Type 0} (f : A → List ℕ) (size : A → ℕ) (xs : List A) where
  -- a front was put, and no item
  pub listing_begins : (front : List ℕ) (a b : Seen) → Puts {E = Failed} a b (Ok tt) front → IsListing f size xs (front ++ flat_map f xs) xs a b
  listing_begins front a b h = record { putting = record { done = front; puts = h; shape = refl }; short = omega arith }

  -- one item more
  pub listing_goes : (whole : List ℕ) (left rest : List A) (x : A) (a b c : Seen) → IsListing f size xs whole left a b → left ≡ x ∷ rest
      → Puts {E = Failed} b c (Ok tt) (f x) → length (f x) ≤ size x → IsListing f size xs whole rest a c
  listing_goes whole left rest x a b c h e k fits =
      let left_bytes : length (flat_map f left) ≡ length (f x) + length (flat_map f rest) = ap (λ z. length (flat_map f z)) e ∙ length-append (f x) (flat_map f rest) in
      let left_sizes : sizes size left ≡ size x + sizes size rest = ap (sizes size) e in record {
        putting = putting_goes a b c whole (f x) (flat_map f rest) (subst (λ z. IsPutting a b whole (flat_map f z)) e h.putting) k;
        short = omega (arith, h.short);
      }

  -- the sink failed at an item
  pub listing_fails : (whole : List ℕ) (left rest : List A) (x : A) (a b c : Seen) (e : Failed) (r : Result (Unit {0}) Failed) → IsListing f size xs whole left a b → left ≡ x ∷ rest
      → Puts b c (Err e) (f x) → r ≡ Err e → Puts a c r whole
  listing_fails whole left rest x a b c err r h e k is =
      putting_fails a b c err r whole (f x) (flat_map f rest) (subst (λ z. IsPutting a b whole (flat_map f z)) e h.putting) k is

  -- all items were put
  pub listing_ends : (whole : List ℕ) (left : List A) (a b : Seen) → IsListing f size xs whole left a b → left ≡ [] → Puts {E = Failed} a b (Ok tt) whole
  listing_ends whole left a b h e = putting_done a b whole (subst (λ z. IsPutting a b whole (flat_map f z)) e h.putting)

  -- and they are no longer than their sizes
  pub listing_short : (whole : List ℕ) (left : List A) (a b : Seen) → IsListing f size xs whole left a b → left ≡ [] → length (flat_map f xs) ≤ sizes size xs
  listing_short whole left a b h e =
      let none : length (flat_map f left) ≡ 0 = ap (λ z. length (flat_map f z)) e in
      omega (arith, h.short)

-- so many items of one size
pub sizes-same : {A : Type 0} (n : ℕ) (xs : List A) → sizes (λ _. n) xs ≡ n * length xs
sizes-same n [] = omega arith
sizes-same n (x ∷ xs) = omega (arith, sizes-same n xs)
