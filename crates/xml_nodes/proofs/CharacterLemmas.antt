-- Bytes that are characters, and names.
use Rattle.std.proofs.Common.{◌≡◌, ℕ, Bool, true, false, List, [], ◌∷◌, ◌++◌, refl, sym, ◌∙◌, append-nil, arith}
use Rattle.std.specs.Prelude.{◌&&◌, not}
use Rattle.std.specs.Char.{encode_utf8, IsScalar}
use Rattle.std.specs.List.{list_all}
use Rattle.std.specs.Str.{IsUtf8, is_utf8, chars}
use Rattle.std.proofs.lemmas.Bool.Decides.{nat_tests}
use Rattle.std.proofs.lemmas.Str.{IsUtf8-append, IsUtf8-nil, IsUtf8-encode, IsUtf8-from_is_utf8, is_utf8-from_IsUtf8, chars-nil, chars-append, chars_past_char}
use Rattle.std.proofs.lemmas.List.Folds.{list_all-append}
use Rattle.plain_tree.specs.XmlNames.{is_char, are_name_chars, is_name, is_xml}
use Rattle.plain_tree.specs.Lawful.{AreChars, IsName, IsTarget}

pub and_true : (a b : Bool) → (a && b) ≡ true → (a ≡ true) × (b ≡ true)
and_true true b e = (refl, e)
and_true false b e = cc

pub chars_text : (v : List ℕ) → AreChars v → IsUtf8 v
chars_text v a = IsUtf8-from_is_utf8 v (and_true (is_utf8 v) (list_all is_char (chars v)) a).0

pub chars_lawful : (v : List ℕ) → AreChars v → list_all is_char (chars v) ≡ true
chars_lawful v a = (and_true (is_utf8 v) (list_all is_char (chars v)) a).1

pub chars-from : (v : List ℕ) → IsUtf8 v → list_all is_char (chars v) ≡ true → AreChars v
chars-from v u e = rw (is_utf8-from_IsUtf8 v u, e) refl

pub no_chars : AreChars []
no_chars = chars-from [] IsUtf8-nil (rw chars-nil refl)

pub more_chars : (x y : List ℕ) → AreChars x → AreChars y → AreChars (x ++ y)
more_chars x y a b =
    chars-from (x ++ y) (IsUtf8-append x y (chars_text x a) (chars_text y b))
    (rw (chars-append x y (chars_text x a)) (list_all-append is_char (chars x) (chars y) ∙ rw (chars_lawful x a, chars_lawful y b) refl))

pub char_scalar : (c : ℕ) → is_char c ≡ true → IsScalar c
unfolding is_char
char_scalar c e = grind (arith, nat_tests)

pub chars-encode : (c : ℕ) → is_char c ≡ true → chars (encode_utf8 c) ≡ c ∷ []
chars-encode c e =
    let text = IsUtf8-encode c (char_scalar c e) in
    rw (chars_past_char (encode_utf8 c) [] c text (sym (append-nil (encode_utf8 c))), chars-nil) refl

pub one_char : (c : ℕ) → is_char c ≡ true → AreChars (encode_utf8 c)
one_char c e = chars-from (encode_utf8 c) (IsUtf8-encode c (char_scalar c e)) (rw (chars-encode c e, e) refl)

pub name_text : (n : List ℕ) → IsName n → IsUtf8 n
unfolding is_name
name_text n i = IsUtf8-from_is_utf8 n (and_true (is_utf8 n) (are_name_chars (chars n)) i).0

pub name_is : (n : List ℕ) → IsName n → are_name_chars (chars n) ≡ true
unfolding is_name
name_is n i = (and_true (is_utf8 n) (are_name_chars (chars n)) i).1

pub target_name : (n : List ℕ) → IsTarget n → IsName n
target_name n t = (and_true (is_name n) (not (is_xml n)) t).0
