-- Bytes up to the first mark: a line up to its line feed, a number up to the space behind it.
use Rattle.std.specs.Prelude.{◌≡◌, ◌≢◌, ℕ, List, [], ◌∷◌, ◌++◌, All, refl}
use Rattle.std.proofs.Common.{ap, ◌∙◌}
use Rattle.std.proofs.lemmas.List.Elements.{All-tail, All-head}

-- the mark is not among these bytes
abbrev pub Lacks : ℕ → List ℕ → Type 0
Lacks mark bytes = All (λ byte. byte ≢ mark) bytes

module _ {mark : ℕ} where
  -- the first mark tells what stands before it and behind it
  pub first_mark : (l m x y : List ℕ) → Lacks mark l → Lacks mark m → l ++ mark ∷ x ≡ m ++ mark ∷ y → (l ≡ m) × (x ≡ y)
  first_mark [] [] x y h k e = (refl, cc)
  first_mark [] (b ∷ m) x y h k e = let same : b ≡ mark = cc in absurd (All-head (λ byte. byte ≡ mark → ⊥) b m k same)
  first_mark (a ∷ l) [] x y h k e = let same : a ≡ mark = cc in absurd (All-head (λ byte. byte ≡ mark → ⊥) a l h same)
  first_mark (a ∷ l) (b ∷ m) x y h k e =
      let rest : l ++ mark ∷ x ≡ m ++ mark ∷ y = cc in
      let r = first_mark l m x y (All-tail (λ byte. byte ≡ mark → ⊥) a l h) (All-tail (λ byte. byte ≡ mark → ⊥) b m k) rest in
      let head : a ≡ b = cc in
      (ap (λ z. z ∷ l) head ∙ ap (λ z. b ∷ z) r.0, r.1)

  -- what lacks it doesn't go on with it
  pub no_mark : (t m x : List ℕ) → Lacks mark t → t ≡ m ++ mark ∷ x → ⊥
  no_mark [] [] x h e = absurd (cc)
  no_mark [] (b ∷ m) x h e = absurd (cc)
  no_mark (a ∷ t) [] x h e = let same : a ≡ mark = cc in All-head (λ byte. byte ≡ mark → ⊥) a t h same
  no_mark (a ∷ t) (b ∷ m) x h e = let rest : t ≡ m ++ mark ∷ x = cc in no_mark t m x (All-tail (λ byte. byte ≡ mark → ⊥) a t h) rest
