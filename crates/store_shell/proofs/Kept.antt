-- Lines that are kept, and lines that are too long.
use Rattle.std.specs.Prelude.{◌≡◌, ◌<◌, ◌≤◌, ◌+◌, ℕ, nat_le, nat_lt, List, [], ◌∷◌, ◌++◌, length, Bool, true, false, Option, Some, None, if◌then◌else◌, refl}
use Rattle.std.proofs.Common.{sym, ◌∙◌, arith, length-append}
use Rattle.std.proofs.lemmas.Bool.Decides.{nat_tests}
use Rattle.std.proofs.lemmas.Option.{same_Some}
use Rattle.store_shell.specs.Lines.{kept, pushed, longest}

pub kept-nil : kept [] ≡ Some []
unfolding kept
kept-nil = refl

push_by : (a b : Bool) (p : List ℕ) (x : ℕ) → nat_le (length p) longest ≡ a → nat_lt (length p) longest ≡ b → nat_le (length p + 1) longest ≡ b → (if b then Some (p ++ x ∷ []) else None) ≡ pushed (if a then Some p else None) x
push_by true b p x e f g = rw f refl
push_by false true p x e f g = absurd (grind (arith, nat_tests))
push_by false false p x e f g = refl

pub kept-push : (p : List ℕ) (x : ℕ) → kept (p ++ x ∷ []) ≡ pushed (kept p) x
unfolding kept
kept-push p x =
    let n : length (p ++ x ∷ []) ≡ length p + 1 = omega (arith, length-append p (x ∷ [])) in
    let g : nat_le (length p + 1) longest ≡ nat_lt (length p) longest = grind (arith, nat_tests) in
    rw n (rw g (push_by (nat_le (length p) longest) (nat_lt (length p) longest) p x refl refl g))

by_length : (b : Bool) (p : List ℕ) (o : Option (List ℕ)) → nat_le (length p) longest ≡ b → o ≡ (if b then Some p else None) → (o ≡ None → longest < length p) × ((q : List ℕ) → o ≡ Some q → (p ≡ q) × (length p ≤ longest))
by_length true p o e h = (λ n. absurd (cc), λ q s. (same_Some p q (sym h ∙ s), grind (arith, nat_tests)))
by_length false p o e h = (λ n. grind (arith, nat_tests), λ q s. absurd (cc))

pub too_long : (p : List ℕ) (o : Option (List ℕ)) → o ≡ kept p → o ≡ None → longest < length p
unfolding kept
too_long p o h n = (by_length (nat_le (length p) longest) p o refl h).0 n

pub not_long : (p q : List ℕ) (o : Option (List ℕ)) → o ≡ kept p → o ≡ Some q → (p ≡ q) × (length p ≤ longest)
unfolding kept
not_long p q o h s = (by_length (nat_le (length p) longest) p o refl h).1 q s
