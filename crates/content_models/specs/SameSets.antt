-- Equal sets are identical.
use Rattle.std.specs.Prelude.{◌≡◌, ℕ, List, Bool, true, false, refl}
use Rattle.std.specs.Cmp.{IsEquivalence}
use Rattle.std.specs.Str.{bytes_eq}
use Rattle.std.proofs.Common.{sym, ap, ◌∙◌}
use Rattle.std.proofs.lemmas.Slice.Eq.{bytes_eq-Decides}

pub same_sets : (a b : List ℕ) → bytes_eq a b ≡ true → a ≡ b
same_sets a b e = (bytes_eq-Decides a b).0 e

same_itself : (a : List ℕ) → bytes_eq a a ≡ true
same_itself a = (bytes_eq-Decides a a).1 refl

pub same_sets_equiv : IsEquivalence bytes_eq
same_sets_equiv = record {
  refl = same_itself;
  symm = λ p q. both p q (bytes_eq p q) (bytes_eq q p) refl refl;
  congr = λ p q r e. ap (λ x. bytes_eq x r) (same_sets p q e);
}
  where
    both : (p q : List ℕ) (a b : Bool) → bytes_eq p q ≡ a → bytes_eq q p ≡ b → bytes_eq p q ≡ bytes_eq q p
    both p q true b e f = let s = same_sets p q e in e ∙ sym (ap (λ x. bytes_eq x p) (sym s) ∙ same_itself p)
    both p q false true e f = let s = same_sets q p f in ap (λ x. bytes_eq p x) s ∙ same_itself p ∙ sym f
    both p q false false e f = e ∙ sym f
