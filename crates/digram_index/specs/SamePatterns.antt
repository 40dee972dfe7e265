-- Equal patterns are identical.
use Rattle.std.specs.Prelude.{◌≡◌, true, false, Bool, refl}
use Rattle.std.specs.Cmp.{IsEquivalence}
use Rattle.std.proofs.Common.{rules, sym, ap, ◌∙◌}
use Rattle.digram_index.specs.declared.patterns.Pattern.{Pattern}
use Rattle.digram_index.specs.contracts.patterns.PatternPartialEq.TheImpl.{eq-value}

-- whether two patterns are the same
abbrev pub is_same : Pattern → Pattern → Bool
is_same p q = eq-value.it p q

pub same_pattern : (p q : Pattern) → is_same p q ≡ true → p ≡ q
same_pattern p q e = search rules

same_itself : (p : Pattern) → is_same p p ≡ true
same_itself p = search rules

pub is_same_equiv : IsEquivalence is_same
is_same_equiv = record {
  refl = same_itself;
  symm = λ p q. both p q (is_same p q) (is_same q p) refl refl;
  congr = λ p q r e. ap (λ (x : Pattern). is_same x r) (same_pattern p q e);
}
  where
    both : (p q : Pattern) (a b : Bool) → is_same p q ≡ a → is_same q p ≡ b → is_same p q ≡ is_same q p
    both p q true b e f = let s = same_pattern p q e in e ∙ sym (ap (λ (x : Pattern). is_same x p) (sym s) ∙ same_itself p)
    both p q false true e f = let s = same_pattern q p f in ap (λ (x : Pattern). is_same p x) s ∙ same_itself p ∙ sym f
    both p q false false e f = e ∙ sym f
