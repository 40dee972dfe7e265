-- The bytes of names.
use Rattle.std.proofs.Common.{◌≡◌, ℕ, ◌<◌, ◌≤◌, Bool, true, List, [], ◌∷◌, refl, arith}
use Rattle.std.specs.Prelude.{nat_le}
use Rattle.std.specs.List.{list_all}
use Rattle.std.specs.Str.{chars}
use Rattle.std.proofs.lemmas.Bool.Decides.{nat_tests}
use Rattle.std.proofs.lemmas.Str.{is_utf8-from_IsUtf8}
use Rattle.plain_tree.specs.XmlNames.{is_name_char, is_name_start, are_name_chars}
use Rattle.plain_tree.specs.Lawful.{IsName}
use Rattle.xml_tokens.proofs.Texts.{utf8_bytes}
use Rattle.xml_nodes.proofs.CharacterLemmas.{name_text, name_is, and_true}
use Rattle.xml_nodes.proofs.Endings.{is_safe}

safe_high : (c : ℕ) → 128 ≤ c → is_safe c ≡ true
safe_high c h = grind (arith, nat_tests)

name_chars : (cs : List ℕ) → are_name_chars cs ≡ true → list_all is_name_char cs ≡ true
unfolding is_name_char
name_chars [] e = refl
name_chars (c ∷ cs) e =
    let both = and_true (is_name_start c) (list_all is_name_char cs) e in
    rw (both.0, both.1) refl

name_safe : (c : ℕ) → is_name_char c ≡ true → c < 128 → is_safe c ≡ true
unfolding is_name_char is_name_start
name_safe c e h = grind (arith, nat_tests)

-- nothing in a name ends a token, a line or quotes
pub names_are_safe : (x : List ℕ) → IsName x → list_all is_safe x ≡ true
names_are_safe x n = utf8_bytes is_safe safe_high is_name_char name_safe x (is_utf8-from_IsUtf8 x (name_text x n)) (name_chars (chars x) (name_is x n))

-- a byte of a character beyond ASCII
abbrev pub is_high : ℕ → Bool
is_high c = nat_le 128 c

pub high_high : (c : ℕ) → 128 ≤ c → is_high c ≡ true
high_high c h = grind (arith, nat_tests)
