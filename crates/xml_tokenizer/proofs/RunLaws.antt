-- Runs of plain characters.
use Rattle.std.proofs.Common.{◌≡◌, ℕ, ◌-◌, ◌<◌, ◌≤◌, Bool, true, false, List, [], ◌∷◌, ◌++◌, length, take, drop, length-drop, refl, arith, ap, sym, ◌∙◌, subst, append_assoc, append-nil}
use Rattle.std.specs.Prelude.{Some, ◌==◌, ◌&&◌}
use Rattle.std.specs.List.{list_all}
use Rattle.std.specs.Str.{is_utf8, chars}
use lib.Utf8.{encodes, encode}
use Rattle.std.proofs.lemmas.Bool.Decides.{nat_tests}
use Rattle.std.proofs.lemmas.List.Folds.{list_all-append}
use Rattle.std.proofs.lemmas.List.{take-append-drop}
use Rattle.std.proofs.lemmas.Str.{encodes-chars, chars-append, chars-encodes, IsUtf8-append, IsUtf8-encode, IsUtf8-from_is_utf8, is_utf8-from_IsUtf8}
use Rattle.plain_tree.specs.XmlNames.{is_char, are_chars}
use Rattle.xml_tokens.specs.Cutting.{front, back, Begins}
use Rattle.xml_tokenizer.specs.Runs.{IsRun, is_run, is_low_run, characters}
use Rattle.xml_tokens.specs.Tokens.{Character, IsToken, AreTokens}
use Rattle.xml_tokens.specs.TokenAt.{char_at}
use Rattle.xml_tokens.proofs.Lists.{and_true, front-back, list_all-front, same_number, take_all}
use Rattle.xml_tokens.proofs.Texts.{chars_byte, chars_none, encode_bytes}
use Rattle.xml_tokens.proofs.TokenLaws.{char_was, char_scalar}

chars_both : (x y : List ℕ) → are_chars x ≡ true → are_chars y ≡ true → are_chars (x ++ y) ≡ true
chars_both x y e f =
    let a = and_true (is_utf8 x) (list_all is_char (chars x)) e in
    let b = and_true (is_utf8 y) (list_all is_char (chars y)) f in
    let u = IsUtf8-from_is_utf8 x a.0 in
    let v = IsUtf8-from_is_utf8 y b.0 in
    rw (is_utf8-from_IsUtf8 (x ++ y) (IsUtf8-append x y u v), chars-append x y u, list_all-append is_char (chars x) (chars y), a.1, b.1) refl

run_both : (x y : List ℕ) → IsRun x → IsRun y → IsRun (x ++ y)
run_both x y a b = record { text = chars_both x y a.text b.text; plain = list_all-append is_run x y ∙ rw (a.plain, b.plain) refl }

low_char : (c : ℕ) → is_low_run c ≡ true → (c < 128) × (is_char c ≡ true) × (is_run c ≡ true)
unfolding is_char
low_char c e = (grind (arith, nat_tests), grind (arith, nat_tests), grind (arith, nat_tests))

low_chars : (x : List ℕ) → list_all is_low_run x ≡ true → IsRun x
low_chars [] e = record { text = chars_none; plain = refl }
low_chars (c ∷ x) e =
    let both = and_true (is_low_run c) (list_all is_low_run x) e in
    let one = low_char c both.0 in
    let others = low_chars x both.1 in
    record { text = chars_byte c x one.0 ∙ rw (one.1, others.text) refl; plain = rw (one.2, others.plain) refl }

pub run_none : (bytes : List ℕ) → Begins IsRun bytes bytes
run_none bytes = record { text = []; spelled = low_chars [] refl; whole = refl }

run_then : (bytes rest left : List ℕ) → Begins IsRun bytes rest → Begins IsRun rest left → Begins IsRun bytes left
run_then bytes rest left a b = record {
  text = a.text ++ b.text;
  spelled = run_both a.text b.text a.spelled b.spelled;
  whole = a.whole ∙ ap (λ z. a.text ++ z) b.whole ∙ sym (append_assoc a.text b.text left);
}

pub run_low : (bytes rest left : List ℕ) → Begins IsRun bytes rest → left ≡ back is_low_run rest → Begins IsRun bytes left
run_low bytes rest left a e =
    run_then bytes rest left a (record {
      text = front is_low_run rest;
      spelled = low_chars (front is_low_run rest) (list_all-front is_low_run rest);
      whole = sym (front-back is_low_run rest) ∙ ap (λ z. front is_low_run rest ++ z) (sym e);
    })

pub run_on : (bytes rest left after : List ℕ) → Begins IsRun bytes rest → left ≡ back is_low_run rest → Begins IsRun left after → Begins IsRun bytes after
run_on bytes rest left after a e b = run_then bytes left after (run_low bytes rest left a e) b

high_run : (c : ℕ) → 128 ≤ c → is_run c ≡ true
high_run c h = grind (arith, nat_tests)

char_run : (c : ℕ) → 128 ≤ c → is_char c ≡ true → IsRun (encode c)
char_run c h e =
    let s = char_scalar c e in
    let u = is_utf8-from_IsUtf8 (encode c) (IsUtf8-encode c s) in
    let one : chars (encode c) ≡ c ∷ [] = ap chars (sym (append-nil (encode c))) ∙ chars-encodes (c ∷ []) (rw s refl) in
    record { text = rw (u, one, e) refl; plain = encode_bytes is_run high_run c (λ l. high_run c h) }

pub high_begins : (bytes : List ℕ) (n c : ℕ) → char_at (take n bytes) ≡ Some c → 128 ≤ c → Begins IsRun bytes (take (length bytes - n) (drop n bytes))
high_begins bytes n c e h =
    let was = char_was (take n bytes) c e in
    let all = take_all (drop n bytes) (length bytes - n) (omega (arith, length-drop n bytes)) in
    record { text = take n bytes; spelled = subst IsRun (sym was.0) (char_run c h was.1); whole = sym (take-append-drop n bytes) ∙ ap (λ z. take n bytes ++ z) (sym all) }

not_60 : (c : ℕ) → list_all is_run (encode c) ≡ true → ((c == 60) ≡ false) × ((c == 38) ≡ false)
unfolding encode
not_60 c e = (by 60 refl (c == 60) refl, by 38 refl (c == 38) refl) where
  by : (k : ℕ) → list_all is_run (encode k) ≡ false → (b : Bool) → (c == k) ≡ b → (c == k) ≡ false
  by k n true is = absurd (let same = subst (λ z. list_all is_run (encode z) ≡ true) (same_number c k is) e in cc)
  by k n false is = is

characters_of : (cs : List ℕ) (after : List ℕ) → list_all is_char cs ≡ true → list_all is_run (encodes cs) ≡ true → AreTokens (characters cs) (encodes cs ++ after) after
characters_of [] after e f = refl
characters_of (c ∷ cs) after e f =
    let both = and_true (is_char c) (list_all is_char cs) e in
    let parts = and_true (list_all is_run (encode c)) (list_all is_run (encodes cs)) (sym (list_all-append is_run (encode c) (encodes cs)) ∙ f) in
    let signs = not_60 c parts.0 in (
      encode c,
      encodes cs ++ after,
      record { lawful = both.0; no_less = signs.0; no_and = signs.1; whole = refl },
      append_assoc (encode c) (encodes cs) after,
      characters_of cs after both.1 parts.1,
    )

-- a run is its characters, each a token
pub characters_are_tokens : (x after : List ℕ) → IsRun x → AreTokens (characters (chars x)) (x ++ after) after
characters_are_tokens x after r =
    let both = and_true (is_utf8 x) (list_all is_char (chars x)) r.text in
    let whole = encodes-chars x (IsUtf8-from_is_utf8 x both.0) in
    subst (λ z. AreTokens (characters (chars x)) (z ++ after) after) whole
    (characters_of (chars x) after both.1 (ap (list_all is_run) whole ∙ r.plain))

encodes-append : (x y : List ℕ) → encodes (x ++ y) ≡ encodes x ++ encodes y
encodes-append [] y = refl
encodes-append (c ∷ x) y = ap (λ z. encode c ++ z) (encodes-append x y) ∙ sym (append_assoc (encode c) (encodes x) (encodes y))

-- a run at one of its characters
pub record Parted (x before : List ℕ) (c : ℕ) (after : List ℕ) : Type 0 where
  pub whole : x ≡ encodes before ++ (encode c ++ encodes after)
  pub tokens : AreTokens (characters before) (encodes before) []
  pub spelled : IsToken (Character c) (encode c)

pub parted : (x before after : List ℕ) (c : ℕ) → IsRun x → chars x ≡ before ++ c ∷ after → Parted x before c after
parted x before after c r e =
    let both = and_true (is_utf8 x) (list_all is_char (chars x)) r.text in
    let whole : x ≡ encodes before ++ (encode c ++ encodes after) = sym (encodes-chars x (IsUtf8-from_is_utf8 x both.0)) ∙ ap encodes e ∙ encodes-append before (c ∷ after) in
    let lawful = and_true (list_all is_char before) (is_char c && list_all is_char after)
    (sym (list_all-append is_char before (c ∷ after)) ∙ ap (list_all is_char) (sym e) ∙ both.1) in
    let plain = and_true (list_all is_run (encodes before)) (list_all is_run (encode c ++ encodes after))
    (sym (list_all-append is_run (encodes before) (encode c ++ encodes after)) ∙ ap (list_all is_run) (sym whole) ∙ r.plain) in
    let first = and_true (list_all is_run (encode c)) (list_all is_run (encodes after)) (sym (list_all-append is_run (encode c) (encodes after)) ∙ plain.1) in
    let signs = not_60 c first.0 in
    record {
      whole = whole;
      tokens = subst (λ z. AreTokens (characters before) z []) (append-nil (encodes before)) (characters_of before [] lawful.0 plain.0);
      spelled = record { lawful = (and_true (is_char c) (list_all is_char after) lawful.1).0; no_less = signs.0; no_and = signs.1; whole = refl };
    }
