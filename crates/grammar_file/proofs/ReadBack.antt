-- The bytes of a number are read as that number, and no fewer bytes are.
use Rattle.std.proofs.Common.{◌≡◌, ℕ, zero, suc, ◌/◌, ◌<◌, ◌≤◌, List, [], ◌∷◌, length, Bool, true, false, inl, inr, refl, ap, arith}
use Rattle.std.specs.Prelude.{nat_lt}
use Rattle.std.proofs.lemmas.Bool.Decides.{nat_tests}
use Rattle.grammar_file.specs.Laws.{NumbersAreReadBack, NumbersAreShortest}
use Rattle.grammar_file.specs.Numbers.{number_bytes, number_of, AreOneNumber}
use Rattle.grammar_file.proofs.NumberLemmas.{number-one, number-next, one-most, more-most}

read-within : (most n : ℕ) → n < most → (test : Bool) → nat_lt n 128 ≡ test → AreOneNumber (number_bytes n) × (number_of (number_bytes n) ≡ n)
read-within zero n h test e = absurd (omega arith)
read-within (suc most) n h true e =
    let small : n < 128 = grind (arith, nat_tests) in
    rw (number-one n small) (inl (small, refl), omega arith)
read-within (suc most) n h false e =
    let large : 128 ≤ n = grind (arith, nat_tests) in
    let rest = read-within most (n / 128) (omega arith) (nat_lt (n / 128) 128) refl in
    rw (number-next n large) (inr (omega arith, omega arith, rest.0), omega (arith, rest.1))

pub read-back : NumbersAreReadBack
read-back n = read-within (suc n) n (omega arith) (nat_lt n 128) refl

shortest-by : (bytes : List ℕ) (n : ℕ) (test : Bool) → nat_lt n 128 ≡ test → AreOneNumber bytes → number_of bytes ≡ n → length (number_bytes n) ≤ length bytes
shortest-by [] n test e are is = absurd are
shortest-by (b ∷ bs) n true e are is =
    let small : n < 128 = grind (arith, nat_tests) in
    omega (arith, one-most n small)
shortest-by (b ∷ bs) n false e (inl (small, none)) is =
    let large : 128 ≤ n = grind (arith, nat_tests) in
    absurd (omega (arith, ap number_of none))
shortest-by (b ∷ bs) n false e (inr (high, byte, are)) is =
    let large : 128 ≤ n = grind (arith, nat_tests) in
    more-most n (length bs) (shortest-by bs (n / 128) (nat_lt (n / 128) 128) refl are (omega arith)) large

pub shortest : NumbersAreShortest
shortest n bytes are is = shortest-by bytes n (nat_lt n 128) refl are is
