-- UTF-8, a byte at a time.
use Rattle.std.proofs.Common.{◌≡◌, ℕ, ◌+◌, ◌/◌, ◌%◌, ◌<◌, ◌≤◌, Bool, true, false, cond, List, [], ◌∷◌, ◌++◌, length, get_or, refl, arith, ap, sym, ◌∙◌, subst}
use Rattle.std.specs.Prelude.{◌&&◌, ◌||◌, nat_le, nat_lt}
use Rattle.std.specs.List.{list_all}
use Rattle.std.specs.Str.{is_utf8, IsUtf8, chars}
use lib.Utf8.{encodes, encode, low_scalar}
use lib.Dec.{ltb}
use borrow.Author.Tests.{ltb-true}
use Rattle.std.proofs.lemmas.Bool.Decides.{nat_tests}
use Rattle.std.proofs.lemmas.Str.{encodes-chars, IsUtf8-from_is_utf8, is_utf8-from_IsUtf8, encode_ascii, chars_past_char}
use Rattle.std.proofs.lemmas.List.Folds.{list_all-append}
use Rattle.plain_tree.specs.XmlNames.{is_char, are_chars, is_space, is_name_start, is_name_char, are_name_chars, is_name}
use Rattle.xml_tokens.specs.NameBytes.{is_name_byte, goes_name}
use Rattle.xml_tokens.proofs.Lists.{and_true, eqb_same, cons_of, none_of, tail_of}

low : (c : ℕ) → c < 128 → (nat_lt c 128) ≡ true
low c h = grind (arith, nat_tests)

-- a character of ASCII is one byte
pub chars_ascii : (c : ℕ) (rest : List ℕ) → c < 128 → chars (c ∷ rest) ≡ c ∷ chars rest
unfolding chars
chars_ascii c [] h = rw (low c h) refl
chars_ascii c (d ∷ rest) h = rw (low c h) refl

pub utf8_ascii : (c : ℕ) (rest : List ℕ) → c < 128 → is_utf8 (c ∷ rest) ≡ is_utf8 rest
unfolding is_utf8
utf8_ascii c rest h = rw (chars_ascii c rest h, low_scalar c (omega arith), encode_ascii c h, eqb_same c) refl

swap : (a b d : Bool) → (a && (b && d)) ≡ (b && (a && d))
swap true true d = refl
swap true false d = refl
swap false true d = refl
swap false false d = refl

pub chars_byte : (c : ℕ) (rest : List ℕ) → c < 128 → are_chars (c ∷ rest) ≡ (is_char c && are_chars rest)
chars_byte c rest h = rw (utf8_ascii c rest h, chars_ascii c rest h) (swap (is_utf8 rest) (is_char c) (list_all is_char (chars rest)))

pub name_byte : (c : ℕ) (rest : List ℕ) → c < 128 → goes_name (c ∷ rest) ≡ (is_name_char c && goes_name rest)
name_byte c rest h = rw (utf8_ascii c rest h, chars_ascii c rest h) (swap (is_utf8 rest) (is_name_char c) (list_all is_name_char (chars rest)))

pub name_start_byte : (c : ℕ) (rest : List ℕ) → c < 128 → is_name (c ∷ rest) ≡ (is_name_start c && goes_name rest)
unfolding is_name
name_start_byte c rest h = rw (utf8_ascii c rest h, chars_ascii c rest h) (swap (is_utf8 rest) (is_name_start c) (list_all is_name_char (chars rest)))

pub name_whole : (s : List ℕ) → 1 ≤ length s → get_or s 0 0 < 128 → is_name s ≡ (is_name_start (get_or s 0 0) && goes_name (tail_of s))
name_whole s n low = ap is_name (cons_of s n) ∙ name_start_byte _ _ low

pub not_utf8 : (x : List ℕ) (b : Bool) → (IsUtf8 x → ⊥) → is_utf8 x ≡ b → is_utf8 x ≡ false
not_utf8 x true n e = absurd (n (IsUtf8-from_is_utf8 x e))
not_utf8 x false n e = e

-- what the decoder answered
pub decoded : (p : List ℕ → Bool) (bytes text : List ℕ) (r : Bool) → text ≡ bytes → IsUtf8 bytes → r ≡ p (chars text) → r ≡ (is_utf8 bytes && p (chars bytes))
decoded p bytes text r e u is = rw (is_utf8-from_IsUtf8 bytes u) (is ∙ ap (λ z. p (chars z)) e)

pub undecoded : (p : List ℕ → Bool) (bytes : List ℕ) → (IsUtf8 bytes → ⊥) → false ≡ (is_utf8 bytes && p (chars bytes))
undecoded p bytes n = rw (not_utf8 bytes (is_utf8 bytes) n refl) refl

pub chars_none : are_chars [] ≡ true
unfolding is_utf8 chars
chars_none = refl

pub name_none : goes_name [] ≡ true
unfolding is_utf8 chars
name_none = refl

module _ (q : ℕ → Bool) (high : (c : ℕ) → 128 ≤ c → q c ≡ true) where
  in_case : (b : Bool) (x y : List ℕ) → (b ≡ true → list_all q x ≡ true) → (b ≡ false → list_all q y ≡ true) → list_all q (cond b x y) ≡ true
  in_case true x y f g = f refl
  in_case false x y f g = g refl

  one : (a : ℕ) → q a ≡ true → list_all q (a ∷ []) ≡ true
  one a e = rw e refl

  two : (a b : ℕ) → q a ≡ true → q b ≡ true → list_all q (a ∷ b ∷ []) ≡ true
  two a b e f = rw (e, f) refl

  three : (a b c : ℕ) → q a ≡ true → q b ≡ true → q c ≡ true → list_all q (a ∷ b ∷ c ∷ []) ≡ true
  three a b c e f g = rw (e, f, g) refl

  four : (a b c d : ℕ) → q a ≡ true → q b ≡ true → q c ≡ true → q d ≡ true → list_all q (a ∷ b ∷ c ∷ d ∷ []) ≡ true
  four a b c d e f g h = rw (e, f, g, h) refl

  later : (c : ℕ) → q (128 + c % 64) ≡ true
  later c = high (128 + c % 64) (omega arith)

  -- the bytes of a character are itself, or all at least 128
  pub encode_bytes : (c : ℕ) → (c < 128 → q c ≡ true) → list_all q (encode c) ≡ true
  unfolding encode
  encode_bytes c low =
      in_case (ltb c 128) _ _ (λ e. one c (low (ltb-true c 128 e)))
      (λ e. in_case (ltb c 2048) _ _ (λ f. two _ _ (high (192 + c / 64) (omega arith)) (later c))
      (λ f. in_case (ltb c 65536) _ _ (λ g. three _ _ _ (high (224 + c / 4096) (omega arith)) (later (c / 64)) (later c))
      (λ g. four _ _ _ _ (high (240 + c / 262144) (omega arith)) (later (c / 4096)) (later (c / 64)) (later c))))

  encodes_bytes : (p : ℕ → Bool) → ((c : ℕ) → p c ≡ true → c < 128 → q c ≡ true) → (cs : List ℕ) → list_all p cs ≡ true → list_all q (encodes cs) ≡ true
  encodes_bytes p h [] e = refl
  encodes_bytes p h (c ∷ cs) e =
      let both = and_true (p c) (list_all p cs) e in
      list_all-append q (encode c) (encodes cs) ∙ rw (encode_bytes c (h c both.0), encodes_bytes p h cs both.1) refl

  pub utf8_bytes : (p : ℕ → Bool) → ((c : ℕ) → p c ≡ true → c < 128 → q c ≡ true) → (x : List ℕ) → is_utf8 x ≡ true → list_all p (chars x) ≡ true → list_all q x ≡ true
  utf8_bytes p h x u e = subst (λ z. list_all q z ≡ true) (encodes-chars x (IsUtf8-from_is_utf8 x u)) (encodes_bytes p h (chars x) e)

pub starts_name : (c : ℕ) → is_name_start c ≡ true → is_name_char c ≡ true
unfolding is_name_char
starts_name c e = rw e refl

-- a name by its first character
pub name_text : (s rest : List ℕ) (c : ℕ) (r : Bool) → IsUtf8 s → s ≡ encode c ++ rest → is_name_start c ≡ true → r ≡ list_all is_name_char (chars s) → r ≡ are_name_chars (chars s)
name_text s rest c r u e starts is = is ∙ rw (chars_past_char s rest c u e, starts, starts_name c starts) refl

name_chars : (cs : List ℕ) → are_name_chars cs ≡ true → list_all is_name_char cs ≡ true
unfolding is_name_char
name_chars [] e = refl
name_chars (c ∷ cs) e =
    let both = and_true (is_name_start c) (list_all is_name_char cs) e in
    rw (both.0, both.1) refl

name_byte_high : (c : ℕ) → 128 ≤ c → is_name_byte c ≡ true
name_byte_high c h = let e : nat_le 128 c ≡ true = grind (arith, nat_tests) in rw e refl

or_second : (a b : Bool) → b ≡ true → (a || b) ≡ true
or_second true b e = refl
or_second false b e = e

-- the bytes of a name may stand in one
pub name_bytes : (x : List ℕ) → is_name x ≡ true → list_all is_name_byte x ≡ true
unfolding is_name
name_bytes x e =
    let both = and_true (is_utf8 x) (are_name_chars (chars x)) e in
    utf8_bytes is_name_byte name_byte_high is_name_char (λ c p l. or_second (nat_le 128 c) (is_name_char c) p) x both.0 (name_chars (chars x) both.1)

pub not_named : is_name [] ≡ true → ⊥
unfolding is_name chars
not_named e = let no = (and_true (is_utf8 []) false e).1 in cc

pub no_name : (s : List ℕ) → length s < 1 → false ≡ is_name s
no_name s n = sym (ap is_name (none_of s n) ∙ empty (is_name []) refl) where
  empty : (b : Bool) → is_name [] ≡ b → is_name [] ≡ false
  empty true e = absurd (not_named e)
  empty false e = e

-- a name isn't empty, and begins with a byte of one
pub named_first : (x : List ℕ) → is_name x ≡ true → (c : ℕ) × (cs : List ℕ) × (x ≡ c ∷ cs) × (is_name_byte c ≡ true)
named_first [] e = absurd (not_named e)
named_first (c ∷ cs) e = (c, cs, refl, (and_true (is_name_byte c) (list_all is_name_byte cs) (name_bytes (c ∷ cs) e)).0)

space_low : (c : ℕ) → is_space c ≡ true → is_name_byte c ≡ false
unfolding is_name_char is_name_start
space_low c e = grind (arith, nat_tests)

-- white space ends a name
pub space_ends_name : (c : ℕ) → is_space c ≡ true → is_name_byte c ≡ false
space_ends_name c e = space_low c e
