-- The numbers of character references.
use Rattle.std.proofs.Common.{◌≡◌, ◌⊎◌, inl, inr, ℕ, ◌+◌, ◌*◌, ◌<◌, ◌≤◌, Bool, true, false, List, [], ◌∷◌, length, get_or, refl, arith, ap, sym, ◌∙◌, subst}
use Rattle.std.specs.Prelude.{Option, None, nat_lt}
use Rattle.std.specs.Char.{digit_value, OutOfScalarRange}
use Rattle.std.specs.List.{list_all}
use Rattle.std.proofs.lemmas.Bool.Decides.{nat_tests}
use Rattle.plain_tree.specs.XmlNames.{is_char}
use Rattle.xml_tokens.specs.References.{char_of, number_after, is_digit}
use Rattle.xml_tokens.proofs.Lists.{cons_of, tail_of}

pub char_small : (n : ℕ) → is_char n ≡ true → (n < 0xD800) ⊎ ((0xE000 ≤ n) × (n < 0x110000))
unfolding is_char
char_small n e = grind (arith, nat_tests)

no_char : (n : ℕ) → ((n < 0xD800) ⊎ ((0xE000 ≤ n) × (n < 0x110000)) → ⊥) → None ≡ char_of n
no_char n h = by (is_char n) refl where
  by : (b : Bool) → is_char n ≡ b → None ≡ char_of n
  by true e = absurd (h (char_small n e))
  by false e = rw e refl

pub out_of_range : (n : ℕ) → OutOfScalarRange n → None ≡ char_of n
out_of_range n o = no_char n (λ h. absurd (outside n o h)) where
  outside : (n : ℕ) → OutOfScalarRange n → (n < 0xD800) ⊎ ((0xE000 ≤ n) × (n < 0x110000)) → ⊥
  outside n (inl o) (inl h) = omega arith
  outside n (inl o) (inr h) = omega arith
  outside n (inr o) (inl h) = omega arith
  outside n (inr o) (inr h) = omega arith

grows : (n base d : ℕ) → 1 ≤ base → n ≤ n * base + d
grows n base d h = grind arith

large : (base n : ℕ) (xs : List ℕ) → 1 ≤ base → 0x10FFFF < n → 0x10FFFF < number_after base n xs
large base n [] b h = h
large base n (x ∷ xs) b h = large base (n * base + digit_value x) xs b (omega (arith, grows n base (digit_value x) b))

none_large : (base n : ℕ) (xs : List ℕ) → 1 ≤ base → 0x10FFFF < n → None ≡ char_of (number_after base n xs)
none_large base n xs b h = let l = large base n xs b h in no_char (number_after base n xs) (λ c. out (number_after base n xs) l c) where
  out : (m : ℕ) → 0x10FFFF < m → (m < 0xD800) ⊎ ((0xE000 ≤ m) × (m < 0x110000)) → ⊥
  out m l (inl h) = omega arith
  out m l (inr h) = omega arith

next : (base n m x : ℕ) (xs : List ℕ) → 1 ≤ base → (m ≡ n * base + digit_value x) ⊎ ((0x10FFFF < n) × (m ≡ n))
    → char_of (number_after base m xs) ≡ char_of (number_after base n (x ∷ xs))
next base n m x xs b (inl e) = rw e refl
next base n m x xs b (inr e) = rw e.1 (sym (none_large base n xs b e.0) ∙ none_large base n (x ∷ xs) b e.0)

pub number_turn : (base n m d : ℕ) (s : List ℕ) (whole : Option ℕ) → 1 ≤ base → 1 ≤ length s → d ≡ digit_value (get_or s 0 0)
    → (m ≡ n * base + d) ⊎ ((0x10FFFF < n) × (m ≡ n)) → char_of (number_after base n s) ≡ whole → char_of (number_after base m (tail_of s)) ≡ whole
number_turn base n m d s whole b l e by is =
    next base n m (get_or s 0 0) (tail_of s) b (subst (λ z. (m ≡ n * base + z) ⊎ ((0x10FFFF < n) × (m ≡ n))) e by)
    ∙ sym (ap (λ z. char_of (number_after base n z)) (cons_of s l)) ∙ is

pub digits_turn : (base d : ℕ) (s : List ℕ) (whole : Bool) → 1 ≤ length s → d ≡ digit_value (get_or s 0 0) → d < base
    → list_all (is_digit base) s ≡ whole → list_all (is_digit base) (tail_of s) ≡ whole
digits_turn base d s whole l e h is = sym (ap (list_all (is_digit base)) (cons_of s l) ∙ rw (digit (get_or s 0 0) (omega arith)) refl) ∙ is where
  digit : (x : ℕ) → digit_value x < base → is_digit base x ≡ true
  digit x h = below (digit_value x) h where
    below : (v : ℕ) → v < base → nat_lt v base ≡ true
    below v h = grind (arith, nat_tests)
