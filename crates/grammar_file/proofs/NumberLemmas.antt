-- The bytes of a number, one after another.
use Rattle.std.proofs.Common.{◌≡◌, length, ℕ, zero, suc, ◌+◌, ◌-◌, ◌/◌, ◌%◌, ◌<◌, ◌≤◌, [], ◌∷◌, Bool, true, false, refl, zero-add, ap, ◌∙◌, subst, arith}
use Rattle.std.specs.Prelude.{nat_lt}
use Rattle.std.proofs.lemmas.Bool.Decides.{nat_tests}
use Rattle.grammar_file.specs.Numbers.{bytes_within, number_bytes}

is_small : (n : ℕ) → n < 128 → nat_lt n 128 ≡ true
is_small n h = grind (arith, nat_tests)

is_large : (n : ℕ) → 128 ≤ n → nat_lt n 128 ≡ false
is_large n h = grind (arith, nat_tests)

within-one : (most n : ℕ) → n < 128 → bytes_within (suc most) n ≡ n ∷ []
within-one most n h = rw (is_small n h) refl

within-next : (most n : ℕ) → 128 ≤ n → bytes_within (suc most) n ≡ (128 + n % 128) ∷ bytes_within most (n / 128)
within-next most n h = rw (is_large n h) refl

-- room for one more byte changes nothing
within-more : (most n : ℕ) → n < most → (test : Bool) → nat_lt n 128 ≡ test → bytes_within (suc most) n ≡ bytes_within most n
within-more zero n h test e = absurd (omega arith)
within-more (suc most) n h true e = rw e refl
within-more (suc most) n h false e =
    let large : 128 ≤ n = grind (arith, nat_tests) in
    let less : n / 128 < most = omega arith in
    rw e (ap (λ bs. (128 + n % 128) ∷ bs) (within-more most (n / 128) less (nat_lt (n / 128) 128) refl))

-- any room is enough that has one byte more than the number has ones
within-enough : (more most n : ℕ) → n < most → bytes_within (more + most) n ≡ bytes_within most n
within-enough zero most n h = rw zero-add refl
within-enough (suc more) most n h =
    let e : suc more + most ≡ suc (more + most) = omega arith in
    rw e (within-more (more + most) n (omega arith) (nat_lt n 128) refl ∙ within-enough more most n h)

pub number-one : (n : ℕ) → n < 128 → number_bytes n ≡ n ∷ []
unfolding number_bytes
number-one n h = within-one n n h

pub number-next : (n : ℕ) → 128 ≤ n → number_bytes n ≡ (128 + n % 128) ∷ number_bytes (n / 128)
unfolding number_bytes
number-next n h =
    let less : n / 128 < n = omega arith in
    let more = n - suc (n / 128) in
    let e : more + suc (n / 128) ≡ n = omega arith in
    let enough : bytes_within n (n / 128) ≡ bytes_within (suc (n / 128)) (n / 128) =
    subst (λ m. bytes_within m (n / 128) ≡ bytes_within (suc (n / 128)) (n / 128)) e (within-enough more (suc (n / 128)) (n / 128) (omega arith)) in
    within-next n n h ∙ ap (λ bs. (128 + n % 128) ∷ bs) enough

-- a number below 128 has one byte, and another one more than its 128th part
pub one-most : (n : ℕ) → n < 128 → length (number_bytes n) ≤ 1
one-most n h = rw (number-one n h) (omega arith)

pub more-most : (n most : ℕ) → length (number_bytes (n / 128)) ≤ most → 128 ≤ n → length (number_bytes n) ≤ suc most
more-most n most h large = rw (number-next n large) (omega (arith, h))
