-- The first of a list of hits.
use Rattle.std.proofs.Common.{◌≡◌, ◌==◌, ◌↔◌, ◌<◌, ℕ, zero, suc, List, [], ◌∷◌, ◌++◌, length, replicate, All, IsTrue, refl, sym, ap, ◌∙◌, subst, arith, append-nil, eq-eqb, eqb-true, length-append}
use Rattle.std.proofs.lemmas.List.{length-replicate}
use Rattle.std.proofs.lemmas.List.Elements.{All-cons, All-nil}

-- a list of no length is empty
pub counts-nothing : (ns : List ℕ) (n : ℕ) → n ≡ length ns → IsTrue (n == 0) ↔ (ns ≡ [])
counts-nothing [] n e = (λ h. refl, λ h. eq-eqb n 0 e)
counts-nothing (m ∷ ns) n e = (λ h. absurd (omega (arith, e, eqb-true n 0 h)), λ h. absurd (cc))

-- what begins with some of one symbol begins with it
pub begins-with : (count f : ℕ) (fs rest : List ℕ) → 0 < count → fs ≡ replicate count f ++ rest → (others : List ℕ) × (fs ≡ f ∷ others)
begins-with zero f fs rest some e = absurd (omega arith)
begins-with (suc count) f fs rest some e = (replicate count f ++ rest, e)

-- and has no other where these are all
only-one : (count f : ℕ) → All (λ g. g ≡ f) (replicate count f)
only-one zero f = All-nil (λ g. g ≡ f)
only-one (suc count) f = All-cons (λ g. g ≡ f) f (replicate count f) refl (only-one count f)

none-behind : (xs : List ℕ) → length xs ≡ 0 → xs ≡ []
none-behind [] e = refl
none-behind (x ∷ xs) e = absurd (omega arith)

pub only-with : (count f : ℕ) (fs rest : List ℕ) → fs ≡ replicate count f ++ rest → count ≡ length fs → All (λ g. g ≡ f) fs
only-with count f fs rest e l =
    let n : rest ≡ [] = none-behind rest (omega (arith, l, ap length e, length-append (replicate count f) rest, length-replicate count f)) in
    subst (All (λ g. g ≡ f)) (sym (e ∙ ap (λ xs. replicate count f ++ xs) n ∙ append-nil (replicate count f))) (only-one count f)
