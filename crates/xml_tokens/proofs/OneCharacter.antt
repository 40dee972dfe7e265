-- One character.
use Rattle.std.proofs.Common.{◌≡◌, ℕ, ◌+◌, ◌<◌, Bool, true, cond, List, [], ◌∷◌, ◌++◌, length, refl, arith, ap, sym, ◌∙◌, length-append}
use Rattle.std.specs.Prelude.{Option, Some, None}
use Rattle.std.specs.Str.{is_utf8, IsUtf8, chars}
use lib.Utf8.{encodes, encode}
use Rattle.std.proofs.lemmas.Str.{encodes-chars, chars-nil, chars_past_char, IsUtf8-past_char, is_utf8-from_IsUtf8, length-encode}
use Rattle.std.specs.Char.{len_utf8}
use Rattle.plain_tree.specs.XmlNames.{is_char}
use Rattle.xml_tokens.specs.References.{char_of}
use Rattle.xml_tokens.specs.TokenAt.{one_char, char_at}
use Rattle.xml_tokens.proofs.Lists.{none_of}
use Rattle.xml_tokens.proofs.Texts.{chars_ascii, utf8_ascii, not_utf8}

utf8_none : is_utf8 [] ≡ true
unfolding is_utf8 chars
utf8_none = refl

pub low_char : (c : ℕ) → c < 128 → one_char (c ∷ []) ≡ char_at (c ∷ [])
unfolding char_at
low_char c h = sym (rw (utf8_ascii c [] h, utf8_none, chars_ascii c [] h, chars-nil) refl)

module _ (s rest : List ℕ) (c : ℕ) (u : IsUtf8 s) (e : s ≡ encode c ++ rest) where
  lengths : length s ≡ len_utf8 c + length rest
  lengths = ap length e ∙ length-append (encode c) rest ∙ ap (λ n. n + length rest) (length-encode c)

  pub char_alone : len_utf8 c ≡ length s → one_char (chars s) ≡ char_of c
  char_alone n = ap one_char (chars_past_char s rest c u e ∙ ap (λ z. c ∷ z) (ap chars (none_of rest (omega (arith, lengths))) ∙ chars-nil))

  more : (cs : List ℕ) → encodes cs ≡ rest → 0 < length rest → one_char (c ∷ cs) ≡ None
  more [] f n = absurd (omega (arith, ap length f))
  more (d ∷ cs) f n = refl

  pub char_more : (len_utf8 c ≡ length s → ⊥) → None ≡ one_char (chars s)
  char_more n =
      let some : 0 < length rest = positive (length rest) (λ z. n (omega (arith, lengths, z))) in
      sym (ap one_char (chars_past_char s rest c u e) ∙ more (chars rest) (encodes-chars rest (IsUtf8-past_char s rest c u e)) some) where
        positive : (k : ℕ) → (k ≡ 0 → ⊥) → 0 < k
        positive k h = grind arith

pub text_char : (bytes text : List ℕ) (o : Option ℕ) → text ≡ bytes → IsUtf8 bytes → o ≡ one_char (chars text) → o ≡ char_at bytes
unfolding char_at
text_char bytes text o e u is = is ∙ ap (λ z. one_char (chars z)) e ∙ sym (rw (is_utf8-from_IsUtf8 bytes u) refl)

pub no_text : (bytes : List ℕ) → (IsUtf8 bytes → ⊥) → None ≡ char_at bytes
unfolding char_at
no_text bytes n = sym (rw (not_utf8 bytes (is_utf8 bytes) n refl) refl)

pub char_seen : (s rest : List ℕ) (c : ℕ) (r : Bool) → IsUtf8 s → s ≡ encode c ++ rest → len_utf8 c ≡ length s → r ≡ is_char c → cond r (Some c) None ≡ one_char (chars s)
char_seen s rest c r u e n is = ap (λ z. cond z (Some c) None) is ∙ sym (char_alone s rest c u e n)
