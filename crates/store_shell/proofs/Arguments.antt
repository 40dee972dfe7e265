-- Words with bytes behind them: where they are cut, and that they are read in one way.
use Rattle.std.specs.Prelude.{◌≡◌, ◌<◌, ◌≤◌, ◌+◌, ◌-◌, ◌%◌, ◌^◌, ℕ, suc, nat_lt, List, [], ◌∷◌, ◌++◌, length, take, drop, Bool, true, false, cond, Some, None, decimal, get_or, refl}
use Rattle.std.proofs.Common.{sym, ap, ◌∙◌, inl, inr, arith}
use Rattle.std.specs.List.{position, position_or_len}
use Rattle.std.proofs.Math.Seq.{drop-cons}
use Rattle.std.proofs.lemmas.Bool.Decides.{nat_tests}
use Rattle.std.proofs.lemmas.Fmt.{decimal_by_steps, decimal_injective}
use Rattle.std.proofs.lemmas.List.{take-append-drop, take_rest, length-take, get_or-take}
use Rattle.std.proofs.lemmas.List.Elements.{All-nil, All-cons, All-append, All-from_get_or}
use Rattle.std.proofs.lemmas.List.Quantifiers.{position-Some}
use Rattle.std.proofs.lemmas.List.Sums.{fails_before_first}
use Rattle.store_shell.specs.Arguments.{HasNoSpace, IsBegun, IsNamed, IsNumbered}
use Rattle.store_shell.specs.Verbs.{is_blank}
use Rattle.store_shell.proofs.Marks.{Lacks, first_mark, no_mark}

-- ---- spaces
-- what the code takes behind the byte at this place
abbrev pub from_behind : List ℕ → ℕ → List ℕ
from_behind bytes at = take (length bytes - (at + 1)) (drop (at + 1) bytes)

not_blank : (byte : ℕ) → is_blank byte ≡ false → byte ≡ 32 → ⊥
not_blank byte e same = grind (arith, nat_tests)

blank : (byte : ℕ) → is_blank byte ≡ true → byte ≡ 32
blank byte e = grind (arith, nat_tests)

unspaced_by : (b : Bool) (bytes : List ℕ) → nat_lt (position_or_len is_blank bytes) (length bytes) ≡ b → cond b (Some (position_or_len is_blank bytes)) None ≡ None → Lacks 32 bytes
unspaced_by true bytes e none = absurd (cc)
unspaced_by false bytes e none =
    let most : length bytes ≤ position_or_len is_blank bytes = grind (arith, nat_tests) in
    All-from_get_or (λ byte. byte ≡ 32 → ⊥) bytes 0
    (λ i lt. let before : i < position_or_len is_blank bytes = omega arith in not_blank (get_or bytes i 0) (fails_before_first is_blank bytes i 0 before))

-- no space is among the bytes where none is found
pub unspaced : (bytes : List ℕ) → position is_blank bytes ≡ None → Lacks 32 bytes
unspaced bytes none = unspaced_by (nat_lt (position_or_len is_blank bytes) (length bytes)) bytes refl none

-- none is in front of the one that is found
pub unspaced_front : (bytes : List ℕ) (at : ℕ) → position is_blank bytes ≡ Some at → Lacks 32 (take at bytes)
unspaced_front bytes at found =
    let p = position-Some is_blank bytes at 0 found in
    All-from_get_or (λ byte. byte ≡ 32 → ⊥) (take at bytes) 0
    (λ i lt e. let before : i < at = omega (arith, length-take at bytes) in not_blank (get_or bytes i 0) (p.2 i before) (sym (get_or-take at bytes i 0 before) ∙ e))

-- and it parts the bytes
pub spaced : (bytes : List ℕ) (at : ℕ) → position is_blank bytes ≡ Some at → bytes ≡ take at bytes ++ 32 ∷ from_behind bytes at
spaced bytes at found =
    let p = position-Some is_blank bytes at 0 found in
    let next : suc at ≡ at + 1 = omega arith in
    let rest : drop (suc at) bytes ≡ from_behind bytes at = ap (λ n. drop n bytes) next ∙ sym (take_rest bytes (at + 1)) in
    let tail = drop-cons bytes at 0 p.0 ∙ (ap (λ b. b ∷ drop (suc at) bytes) (blank (get_or bytes at 0) p.1) ∙ ap (λ z. 32 ∷ z) rest) in
    sym (take-append-drop at bytes) ∙ ap (λ z. take at bytes ++ z) tail

-- ---- numbers
one_digit : (d : ℕ) → d < 10 → Lacks 32 ((48 + d) ∷ [])
one_digit d lt = All-cons (λ byte. byte ≡ 32 → ⊥) (48 + d) [] (λ e. omega arith) (All-nil (λ byte. byte ≡ 32 → ⊥))

-- there is no space in a number
digits : (n : ℕ) → n < 2 ^ 64 → Lacks 32 (decimal n)
digits n small =
    decimal_by_steps (λ n ds. Lacks 32 ds) one_digit
    (λ n ds le h. All-append (λ byte. byte ≡ 32 → ⊥) ds ((48 + n % 10) ∷ []) h (one_digit (n % 10) (omega arith))) n small

-- ---- reading
-- a word and what stands behind it are told by the whole
pub begun-one : (arguments v w xs ys : List ℕ) → HasNoSpace v → HasNoSpace w → IsBegun arguments v xs → IsBegun arguments w ys → (v ≡ w) × (xs ≡ ys)
begun-one arguments v w xs ys lv lw h k =
    elim h [
      | inl e ↦ elim k [
        | inl d ↦ first_mark v w xs ys lv lw (sym e ∙ d)
        | inr d ↦ absurd (no_mark w v xs lw (sym d.1 ∙ e))
      ]
      | inr e ↦ elim k [
        | inl d ↦ absurd (no_mark v w ys lv (sym e.1 ∙ d))
        | inr d ↦ (sym e.1 ∙ d.1, e.0 ∙ sym d.0)
      ]
    ]

-- so are a number and what stands behind it
pub numbered-one : (arguments : List ℕ) (m n : ℕ) (xs ys : List ℕ) → IsNumbered arguments m xs → IsNumbered arguments n ys → (m ≡ n) × (xs ≡ ys)
numbered-one arguments m n xs ys h k =
    let r = begun-one arguments (decimal m) (decimal n) xs ys (digits m h.0) (digits n k.0) h.1 k.1 in
    (decimal_injective m n h.0 k.0 r.0, r.1)

-- and a name
pub named-one : (arguments v w xs ys : List ℕ) → IsNamed arguments v xs → IsNamed arguments w ys → (v ≡ w) × (xs ≡ ys)
named-one arguments v w xs ys h k = begun-one arguments v w xs ys h.1 k.1 h.2 k.2

-- where a word is cut off that is no number, none stands there
pub none-numbered : (arguments word rest : List ℕ) → HasNoSpace word → IsBegun arguments word rest → ((n : ℕ) → n < 2 ^ 64 → word ≡ decimal n → ⊥) → (n : ℕ) (bytes : List ℕ) → IsNumbered arguments n bytes → ⊥
none-numbered arguments word rest lacks begun none n bytes h = none n h.0 (begun-one arguments word (decimal n) rest bytes lacks (digits n h.0) begun h.1).0

-- nor a name where it is empty
pub none-named : (arguments word rest : List ℕ) → HasNoSpace word → IsBegun arguments word rest → word ≡ [] → (name bytes : List ℕ) → IsNamed arguments name bytes → ⊥
none-named arguments word rest lacks begun empty name bytes h = h.0 (sym (begun-one arguments word name rest bytes lacks h.1 begun h.2).0 ∙ empty)
