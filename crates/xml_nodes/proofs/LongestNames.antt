-- The longest name at the front of bytes, found character by character.
use Rattle.std.proofs.Common.{◌≡◌, ℕ, ◌+◌, ◌-◌, ◌<◌, ◌≤◌, Bool, true, false, List, [], ◌∷◌, ◌++◌, length, take, drop, refl, ap, sym, ◌∙◌, subst, append_assoc, append-nil, length-append, arith}
use Rattle.std.specs.Prelude.{Some, None, ◌==◌, if◌then◌else◌}
use Rattle.std.specs.List.{list_all}
use Rattle.std.specs.Str.{IsUtf8, chars}
use Rattle.std.proofs.Math.Utf8.{encodes, scalars, encode, scalar}
use Rattle.std.proofs.lemmas.Bool.Decides.{nat_tests}
use Rattle.std.proofs.lemmas.Str.{chars-encodes, encodes-chars, scalars-chars, encodes-append, is_utf8-from_IsUtf8, IsUtf8-nil, IsUtf8-encode, IsUtf8-append}
use Rattle.std.proofs.lemmas.List.Folds.{list_all-append}
use Rattle.std.proofs.lemmas.List.{append_cancel_left, length-take-le, take-append-drop, take_all, length-drop, drop_all}
use Rattle.std.proofs.Math.Seq.{drop-append_seam, take-append_seam}
use Rattle.bstr.specs.Utf8.{decoded}
use Rattle.bstr.proofs.lemmas.EncodeLemmas.{decoded-encode}
use Rattle.bstr.proofs.lemmas.SoundLemmas.{SpellsChar-decoded}
use Rattle.plain_tree.specs.XmlNames.{is_name, is_name_start, is_name_char, are_name_chars}
use Rattle.plain_tree.specs.Lawful.{IsName}
use Rattle.xml_nodes.specs.NameLengths.{IsNameLength}
use Rattle.xml_nodes.proofs.CharacterLemmas.{and_true, name_text, name_is}

-- characters that begin a name, if there are any
abbrev pub begin_name : List ℕ → Bool
begin_name [] = true
begin_name (c ∷ cs) = are_name_chars (c ∷ cs)

abbrev pub may_come : ℕ → ℕ → Bool
may_come n c = if n == 0 then is_name_start c else is_name_char c

-- so many bytes at the front are characters that begin a name
pub record IsNameFront (bytes : List ℕ) (n : ℕ) : Type 0 where
  pub cs : List ℕ
  pub rest : List ℕ
  pub whole : bytes ≡ encodes cs ++ rest
  pub long : n ≡ length (encodes cs)
  pub begins : begin_name cs ≡ true
  pub are : scalars cs ≡ true

pub nothing_yet : (bytes : List ℕ) → IsNameFront bytes 0
nothing_yet bytes = record { cs = []; rest = bytes; whole = refl; long = refl; begins = refl; are = refl }

pub some_bytes : (c : ℕ) → scalar c ≡ true → 0 < length (encode c)
some_bytes c is = by_bytes (encode c) refl where
  by_bytes : (x : List ℕ) → encode c ≡ x → 0 < length (encode c)
  by_bytes [] e =
      let none : (decoded []).char ≡ Some c = ap (λ z. (decoded (z ++ [])).char) (sym e) ∙ ap (λ q. q.char) (decoded-encode c [] is) in
      cc
  by_bytes (b ∷ x) e = let long : length (encode c) ≡ length (b ∷ x) = ap length e in omega (arith, long)

rest_is : (bytes : List ℕ) (n : ℕ) (f : IsNameFront bytes n) → drop n bytes ≡ f.rest
rest_is bytes n f = ap (λ z. drop n z) f.whole ∙ ap (λ z. drop z (encodes f.cs ++ f.rest)) f.long ∙ drop-append_seam (encodes f.cs) f.rest

scalars_more : (cs : List ℕ) (c : ℕ) → scalars cs ≡ true → scalar c ≡ true → scalars (cs ++ c ∷ []) ≡ true
scalars_more [] c a e = rw e refl
scalars_more (d ∷ cs) c a e =
    let both = and_true (scalar d) (scalars cs) a in
    rw (both.0, scalars_more cs c both.1 e) refl

one_more : (cs : List ℕ) (n c : ℕ) → n ≡ length (encodes cs) → scalars cs ≡ true → begin_name cs ≡ true → may_come n c ≡ true → begin_name (cs ++ c ∷ []) ≡ true
one_more [] n c long are begins may =
    let zero_yet : (n == 0) ≡ true = rw long refl in
    let starts : is_name_start c ≡ true = ap (λ z. if z then is_name_start c else is_name_char c) (sym zero_yet) ∙ may in
    rw starts refl
one_more (d ∷ ds) n c long are begins may =
    let both = and_true (is_name_start d) (list_all is_name_char ds) begins in
    let some = some_bytes d (and_true (scalar d) (scalars ds) are).0 in
    let whole : n ≡ length (encode d) + length (encodes ds) = long ∙ length-append (encode d) (encodes ds) in
    let begun : (n == 0) ≡ false = grind (arith, nat_tests) in
    let goes : is_name_char c ≡ true = ap (λ z. if z then is_name_start c else is_name_char c) (sym begun) ∙ may in
    rw both.0 (list_all-append is_name_char ds (c ∷ []) ∙ rw (both.1, goes) refl)

pub goes_on : (bytes : List ℕ) (n c size : ℕ) → IsNameFront bytes n → (decoded (drop n bytes)).char ≡ Some c → (decoded (drop n bytes)).size ≡ size → may_come n c ≡ true
    → IsNameFront bytes (n + size)
goes_on bytes n c size f first wide may =
    let s = SpellsChar-decoded (drop n bytes) c first in
    let front : encodes (f.cs ++ c ∷ []) ≡ encodes f.cs ++ encode c = encodes-append f.cs (c ∷ []) ∙ ap (λ z. encodes f.cs ++ z) (append-nil (encode c)) in
    record {
      cs = f.cs ++ c ∷ [];
      rest = drop (decoded (drop n bytes)).size (drop n bytes);
      whole = f.whole ∙ ap (λ z. encodes f.cs ++ z) (sym (rest_is bytes n f) ∙ s.bytes)
          ∙ sym (append_assoc (encodes f.cs) (encode c) (drop (decoded (drop n bytes)).size (drop n bytes)))
          ∙ ap (λ z. z ++ drop (decoded (drop n bytes)).size (drop n bytes)) (sym front);
      long =
          let width : length (encode c) ≡ size = s.width ∙ wide in
          let sum : length (encodes (f.cs ++ c ∷ [])) ≡ length (encodes f.cs) + length (encode c) = ap length front ∙ length-append (encodes f.cs) (encode c) in
          let before = f.long in
          omega (arith, width, sum, before);
      begins = one_more f.cs n c f.long f.are f.begins may;
      are = scalars_more f.cs c f.are s.scalar;
    }

-- a longer name at the front has one character more
record GoesOn (cs ds rest y : List ℕ) : Type 0 where
  e : ℕ
  es : List ℕ
  are : ds ≡ cs ++ e ∷ es
  behind : rest ≡ encode e ++ (encodes es ++ y)

same_first : (c d : ℕ) (x y : List ℕ) → scalar c ≡ true → scalar d ≡ true → encode c ++ x ≡ encode d ++ y → c ≡ d
same_first c d x y a b e =
    let same : Some c ≡ Some d =
    ap (λ q. q.char) (sym (decoded-encode c x a)) ∙ ap (λ z. (decoded z).char) e ∙ ap (λ q. q.char) (decoded-encode d y b) in
    cc

longer : (cs ds rest y : List ℕ) → scalars cs ≡ true → scalars ds ≡ true → encodes cs ++ rest ≡ encodes ds ++ y → length (encodes cs) < length (encodes ds) → GoesOn cs ds rest y
longer [] [] rest y a b e h = absurd (omega arith)
longer [] (d ∷ ds) rest y a b e h = record { e = d; es = ds; are = refl; behind = e ∙ append_assoc (encode d) (encodes ds) y }
longer (c ∷ cs) [] rest y a b e h = absurd (omega arith)
longer (c ∷ cs) (d ∷ ds) rest y a b e h =
    let p = and_true (scalar c) (scalars cs) a in
    let q = and_true (scalar d) (scalars ds) b in
    let whole : encode c ++ (encodes cs ++ rest) ≡ encode d ++ (encodes ds ++ y) =
    sym (append_assoc (encode c) (encodes cs) rest) ∙ e ∙ append_assoc (encode d) (encodes ds) y in
    let same = same_first c d (encodes cs ++ rest) (encodes ds ++ y) p.0 q.0 whole in
    let behind : encodes cs ++ rest ≡ encodes ds ++ y =
    append_cancel_left (encode d) (encodes cs ++ rest) (encodes ds ++ y) (ap (λ z. encode z ++ (encodes cs ++ rest)) (sym same) ∙ whole) in
    let first : length (encode c) ≡ length (encode d) = ap (λ z. length (encode z)) same in
    let short : length (encodes cs) < length (encodes ds) = omega (arith, first, h, length-append (encode c) (encodes cs), length-append (encode d) (encodes ds)) in
    let below = longer cs ds rest y p.1 q.1 behind short in
    record { e = below.e; es = below.es; are = ap (λ z. z ∷ ds) (sym same) ∙ ap (λ z. c ∷ z) below.are; behind = below.behind }

scalar_there : (cs : List ℕ) (e : ℕ) (es : List ℕ) → scalars (cs ++ e ∷ es) ≡ true → scalar e ≡ true
scalar_there [] e es a = (and_true (scalar e) (scalars es) a).0
scalar_there (c ∷ cs) e es a = scalar_there cs e es (and_true (scalar c) (scalars (cs ++ e ∷ es)) a).1

char_there : (cs : List ℕ) (e : ℕ) (es : List ℕ) → list_all is_name_char (cs ++ e ∷ es) ≡ true → is_name_char e ≡ true
char_there [] e es a = (and_true (is_name_char e) (list_all is_name_char es) a).0
char_there (c ∷ cs) e es a = char_there cs e es (and_true (is_name_char c) (list_all is_name_char (cs ++ e ∷ es)) a).1

-- the character behind a front of a name may come there
comes_next : (cs : List ℕ) (n e : ℕ) (es : List ℕ) → n ≡ length (encodes cs) → scalars cs ≡ true → are_name_chars (cs ++ e ∷ es) ≡ true → may_come n e ≡ true
comes_next [] n e es long are named =
    let zero_yet : (n == 0) ≡ true = rw long refl in
    rw zero_yet (and_true (is_name_start e) (list_all is_name_char es) named).0
comes_next (d ∷ ds) n e es long are named =
    let some = some_bytes d (and_true (scalar d) (scalars ds) are).0 in
    let whole : n ≡ length (encode d) + length (encodes ds) = long ∙ length-append (encode d) (encodes ds) in
    let begun : (n == 0) ≡ false = grind (arith, nat_tests) in
    rw begun (char_there ds e es (and_true (is_name_start d) (list_all is_name_char (ds ++ e ∷ es)) named).1)

-- no character that may come stands behind the front
pub StopsAt : List ℕ → ℕ → Type 0
StopsAt bytes n = (e : ℕ) → (decoded (drop n bytes)).char ≡ Some e → may_come n e ≡ false

no_longer : (bytes : List ℕ) (n : ℕ) (f : IsNameFront bytes n) → StopsAt bytes n → (k : ℕ) → n < k → k ≤ length bytes → IsName (take k bytes) → ⊥
unfolding StopsAt
no_longer bytes n f stops k h within named =
    let x = take k bytes in
    let text = name_text x named in
    let whole : encodes f.cs ++ f.rest ≡ encodes (chars x) ++ drop k bytes =
    sym f.whole ∙ sym (take-append-drop k bytes) ∙ ap (λ z. z ++ drop k bytes) (sym (encodes-chars x text)) in
    let long : length (encodes (chars x)) ≡ k = ap length (encodes-chars x text) ∙ length-take-le k bytes within in
    let own = f.long in
    let short : length (encodes f.cs) < length (encodes (chars x)) = omega (arith, long, own, h) in
    let g = longer f.cs (chars x) f.rest (drop k bytes) f.are (scalars-chars x text) whole short in
    let is_scalar = scalar_there f.cs g.e g.es (subst (λ z. scalars z ≡ true) g.are (scalars-chars x text)) in
    let first : (decoded (drop n bytes)).char ≡ Some g.e =
    ap (λ z. (decoded z).char) (rest_is bytes n f ∙ g.behind) ∙ ap (λ q. q.char) (decoded-encode g.e (encodes g.es ++ drop k bytes) is_scalar) in
    let may = comes_next f.cs n g.e g.es f.long f.are (subst (λ z. are_name_chars z ≡ true) g.are (name_is x named)) in
    let bad : true ≡ false = sym may ∙ stops g.e first in
    cc

spelled : (cs : List ℕ) → scalars cs ≡ true → IsUtf8 (encodes cs)
spelled [] a = IsUtf8-nil
spelled (c ∷ cs) a =
    let both = and_true (scalar c) (scalars cs) a in
    IsUtf8-append (encode c) (encodes cs) (IsUtf8-encode c both.0) (spelled cs both.1)

name_of : (cs rest : List ℕ) → begin_name cs ≡ true → scalars cs ≡ true → 0 < length (encodes cs) → IsName (encodes cs)
unfolding is_name
name_of [] rest b a h = absurd (omega arith)
name_of (c ∷ cs) rest b a h = rw (is_utf8-from_IsUtf8 (encodes (c ∷ cs)) (spelled (c ∷ cs) a), chars-encodes (c ∷ cs) a) b

pub name_length : (bytes : List ℕ) (n : ℕ) → n ≤ length bytes → IsNameFront bytes n → StopsAt bytes n → IsNameLength bytes n
name_length bytes n within f stops = record {
  within = within;
  named = λ h.
      let own = f.long in
      let front : take n bytes ≡ encodes f.cs = ap (λ z. take n z) f.whole ∙ ap (λ z. take z (encodes f.cs ++ f.rest)) f.long ∙ take-append_seam (encodes f.cs) f.rest in
      subst IsName (sym front) (name_of f.cs f.rest f.begins f.are (omega (arith, own, h)));
  longest = λ k h inside. by_test (take k bytes) (is_name (take k bytes)) refl (no_longer bytes n f stops k h inside);
} where
  by_test : (x : List ℕ) (b : Bool) → is_name x ≡ b → (IsName x → ⊥) → is_name x ≡ false
  by_test x true e no_name = absurd (no_name e)
  by_test x false e no_name = e

pub front_within : (bytes : List ℕ) (n : ℕ) → IsNameFront bytes n → n ≤ length bytes
front_within bytes n f =
    let whole : length bytes ≡ length (encodes f.cs) + length f.rest = ap length f.whole ∙ length-append (encodes f.cs) f.rest in
    let long = f.long in
    omega (arith, whole, long)

pub some_more : (bytes : List ℕ) (n c size : ℕ) → (decoded (drop n bytes)).char ≡ Some c → (decoded (drop n bytes)).size ≡ size → 0 < size
some_more bytes n c size first wide =
    let s = SpellsChar-decoded (drop n bytes) c first in
    let some = some_bytes c s.scalar in
    let width : length (encode c) ≡ size = s.width ∙ wide in
    omega (arith, some, width)

-- all the bytes from a place on
pub seen_rest : (bytes : List ℕ) (n : ℕ) → take (length bytes - n) (drop n bytes) ≡ drop n bytes
seen_rest bytes n = take_all (length bytes - n) (drop n bytes) (omega (arith, length-drop n bytes))

pub stops_at_none : (bytes : List ℕ) (n : ℕ) → (decoded (drop n bytes)).char ≡ None → StopsAt bytes n
unfolding StopsAt
stops_at_none bytes n none e found = let bad : None ≡ Some e = sym none ∙ found in cc

pub stops_at_char : (bytes : List ℕ) (n c : ℕ) → (decoded (drop n bytes)).char ≡ Some c → may_come n c ≡ false → StopsAt bytes n
unfolding StopsAt
stops_at_char bytes n c first may e found = let same : Some c ≡ Some e = sym first ∙ found in let is : c ≡ e = cc in subst (λ z. may_come n z ≡ false) is may

pub stops_at_end : (bytes : List ℕ) (n : ℕ) → length bytes ≤ n → StopsAt bytes n
stops_at_end bytes n h = stops_at_none bytes n (ap (λ z. (decoded z).char) (drop_all n bytes h))
