-- Numbers that are read from the front of bytes.
use Rattle.std.proofs.Common.{◌≡◌, ◌⊎◌, inl, inr, ℕ, ◌+◌, ◌-◌, ◌*◌, ◌/◌, ◌%◌, ◌<◌, ◌≤◌, List, [], ◌∷◌, ◌++◌, length, Bool, true, false, refl, sym, ap, ◌∙◌, arith}
use Rattle.std.specs.Prelude.{nat_lt}
use Rattle.std.proofs.lemmas.Bool.Decides.{nat_tests}
use Rattle.grammar_file.specs.Numbers.{number_bytes}
use Rattle.grammar_file.specs.Reading.{BeginsNone}
use Rattle.grammar_file.proofs.NumberLemmas.{number-one, number-next}
use Rattle.grammar_file.proofs.Unique.{number-unique}

abbrev pub one_byte : ℕ → List ℕ
one_byte b = b ∷ []

-- the first byte of a number, and the others
front-by : (n b : ℕ) (left more : List ℕ) (test : Bool) → nat_lt n 128 ≡ test → b ∷ left ≡ number_bytes n ++ more
    → ((n < 128) × (b ≡ n) × (left ≡ more)) ⊎ ((128 ≤ n) × (b ≡ 128 + n % 128) × (left ≡ number_bytes (n / 128) ++ more))
front-by n b left more true t e =
    let small : n < 128 = grind (arith, nat_tests) in
    let f : b ∷ left ≡ n ∷ more = rw (number-one n small) at e in
    inl (small, cc, cc)
front-by n b left more false t e =
    let large : 128 ≤ n = grind (arith, nat_tests) in
    let f : b ∷ left ≡ (128 + n % 128) ∷ (number_bytes (n / 128) ++ more) = rw (number-next n large) at e in
    inr (large, cc, cc)

front : (n b : ℕ) (left more : List ℕ) → b ∷ left ≡ number_bytes n ++ more
    → ((n < 128) × (b ≡ n) × (left ≡ more)) ⊎ ((128 ≤ n) × (b ≡ 128 + n % 128) × (left ≡ number_bytes (n / 128) ++ more))
front n b left more e = front-by n b left more (nat_lt n 128) refl e

some-by : (n : ℕ) (test : Bool) → nat_lt n 128 ≡ test → (b : ℕ) × (bs : List ℕ) × (number_bytes n ≡ b ∷ bs)
some-by n true t = let small : n < 128 = grind (arith, nat_tests) in (n, [], number-one n small)
some-by n false t = let large : 128 ≤ n = grind (arith, nat_tests) in (128 + n % 128, number_bytes (n / 128), number-next n large)

-- a number has a byte at least
pub number_some : (n : ℕ) → 0 < length (number_bytes n)
number_some n = let s = some-by n (nat_lt n 128) refl in omega (arith, ap length s.2)

module _ (most : ℕ) (old : List ℕ) where
  -- no byte is left
  pub number_ends : BeginsNone (λ _. Unit {0}) one_byte old → BeginsNone (λ n. n ≤ most) number_bytes old
  number_ends none n more fits e = let s = some-by n (nat_lt n 128) refl in none s.0 (s.1 ++ more) tt (e ∙ ap (λ z. z ++ more) s.2)

  -- the first byte is too large
  pub number_starts_large : (b : ℕ) (left : List ℕ) → old ≡ b ∷ left → most < b → BeginsNone (λ n. n ≤ most) number_bytes old
  number_starts_large b left is large n more fits e = elim (front n b left more (sym is ∙ e)) [ inl f ↦ omega (arith, f.1) | inr f ↦ omega (arith, f.0, f.1) ]

  pub number_is_byte : (b : ℕ) (left : List ℕ) → old ≡ b ∷ left → b < 128 → old ≡ number_bytes b ++ left
  number_is_byte b left is small = is ∙ ap (λ z. z ++ left) (sym (number-one b small))

  -- no number follows the first byte
  pub number_breaks : (b : ℕ) (left : List ℕ) → old ≡ b ∷ left → 128 ≤ b → BeginsNone (λ n. n ≤ most / 128) number_bytes left → BeginsNone (λ n. n ≤ most) number_bytes old
  number_breaks b left is large none n more fits e =
      elim (front n b left more (sym is ∙ e)) [ inl f ↦ omega (arith, f.0, f.1) | inr f ↦ none (n / 128) more (omega arith) f.2 ]

  -- the number that follows is 0, or too large with the first byte
  pub number_is_no_least : (b high : ℕ) (left new : List ℕ) → old ≡ b ∷ left → 128 ≤ b → left ≡ number_bytes high ++ new → (0 < high → b + 128 * high ≤ most + 128 → ⊥)
      → BeginsNone (λ n. n ≤ most) number_bytes old
  number_is_no_least b high left new is large follows not n more fits e =
      elim (front n b left more (sym is ∙ e)) [
        | inl f ↦ omega (arith, f.0, f.1)
        | inr f ↦ let same : high ≡ n / 128 = (number-unique high (n / 128) new more (sym follows ∙ f.2)).0 in not (omega (arith, f.0)) (omega (arith, f.1))
      ]

  pub number_is : (b high : ℕ) (left new : List ℕ) → old ≡ b ∷ left → 128 ≤ b → b < 256 → left ≡ number_bytes high ++ new → 0 < high → old ≡ number_bytes ((b - 128) + 128 * high) ++ new
  number_is b high left new is large byte follows some =
      let n = (b - 128) + 128 * high in
      let first : 128 + n % 128 ≡ b = omega arith in
      let rest : n / 128 ≡ high = omega arith in
      is ∙ ap (λ z. b ∷ z) follows ∙ ap (λ z. z ++ new) (sym (number-next n (omega arith) ∙ ap (λ z. z ∷ number_bytes (n / 128)) first ∙ ap (λ z. b ∷ number_bytes z) rest))
