-- The tokens that are written are spelled.
use Rattle.std.proofs.Common.{◌≡◌, ◌≢◌, ℕ, ◌≤◌, ◌<◌, Bool, true, false, List, [], ◌∷◌, ◌++◌, refl, ap, sym, ◌∙◌, subst, append-nil, arith}
use Rattle.std.specs.Prelude.{Some, ◌==◌, ◌&&◌, nat_lt, map, if◌then◌else◌, codes}
use Rattle.std.specs.Str.{bytes_eq, chars}
use Rattle.std.specs.Char.{encode_utf8}
use Rattle.std.specs.List.{list_all, flat_map, AllByRecursion}
use Rattle.std.proofs.lemmas.Bool.Decides.{nat_tests}
use Rattle.std.proofs.lemmas.Slice.Eq.{bytes_eq-Decides}
use Rattle.std.proofs.lemmas.List.Folds.{list_all-append}
use Rattle.std.proofs.lemmas.Grind.{flat_map-append}
use Rattle.std.proofs.lemmas.Str.{encodes-chars, encode_ascii}
use lib.Utf8.{encodes, encode}
use lib.Dec.{ltb}
use borrow.Author.Tests.{ltb-true, ltb-false}
use Rattle.xml_nodes.proofs.CharacterLemmas.{and_true, chars_text, chars_lawful, no_chars, more_chars, one_char}
use Rattle.xml_nodes.proofs.NameBytes.{is_high, high_high}
use Rattle.xml_tokens.proofs.Texts.{encode_bytes}
use Rattle.plain_tree.specs.XmlNames.{is_char}
use Rattle.xml_tokens.specs.Cutting.{is_other}
use Rattle.plain_tree.specs.Lawful.{AreChars, IsName, IsTarget, IsInstructionValue, IsCommentValue}
use Rattle.xml_tokens.specs.Tokens.{Instruction, IsToken, Character, Start, Empty, End, Comment}
use Rattle.xml_nodes.specs.LawfulTokens.{HaveDistinctNames, AreLawfulAttributes}
use Rattle.xml_tokens.specs.References.{IsReference, referred}
use Rattle.xml_tokens.specs.Markup.{IsStart}
use Rattle.xml_tokens.specs.Attributes.{IsAttribute, AreAttributes, IsValue, Piece, Plain, Referred, piece_text, piece_value, space_if_white, IsPiece, has_name, are_distinct}
use Rattle.xml_nodes.specs.Saved.{value_byte, attribute_text, instruction_text, end_tag_text, comment_text}

-- the six references
refers : (c : ℕ) (inner : List ℕ) → referred inner ≡ Some c → IsReference c (38 ∷ (inner ++ 59 ∷ []))
refers c inner e = record { inner = inner; names = e; whole = refl }

pub refers_ampersand : IsReference 38 (codes "&amp;")
unfolding referred
refers_ampersand = refers 38 (97 ∷ 109 ∷ 112 ∷ []) refl

pub refers_less : IsReference 60 (codes "&lt;")
unfolding referred
refers_less = refers 60 (108 ∷ 116 ∷ []) refl

pub refers_greater : IsReference 62 (codes "&gt;")
unfolding referred
refers_greater = refers 62 (103 ∷ 116 ∷ []) refl

refers_quotation : IsReference 34 (codes "&quot;")
unfolding referred
refers_quotation = refers 34 (113 ∷ 117 ∷ 111 ∷ 116 ∷ []) refl

refers_tabulator : IsReference 9 (codes "&#x9;")
unfolding referred is_char
refers_tabulator = refers 9 (35 ∷ 120 ∷ 57 ∷ []) refl

refers_line_feed : IsReference 10 (codes "&#xA;")
unfolding referred is_char
refers_line_feed = refers 10 (35 ∷ 120 ∷ 65 ∷ []) refl

pub refers_return : IsReference 13 (codes "&#xD;")
unfolding referred is_char
refers_return = refers 13 (35 ∷ 120 ∷ 68 ∷ []) refl

-- a byte of a value, as a part of it
abbrev byte_piece : ℕ → Piece
byte_piece c =
    if c == 38 then Referred 38 (codes "&amp;")
    else (if c == 60 then Referred 60 (codes "&lt;")
    else (if c == 34 then Referred 34 (codes "&quot;")
    else (if c == 9 then Referred 9 (codes "&#x9;") else (if c == 10 then Referred 10 (codes "&#xA;") else (if c == 13 then Referred 13 (codes "&#xD;") else Plain c)))))

-- what the parts of a byte are
record IsWritten (c : ℕ) : Type 0 where
  text : piece_text (byte_piece c) ≡ value_byte c
  value : piece_value space_if_white (byte_piece c) ≡ c ∷ []
  is : IsPiece (byte_piece c)
  other : list_all (is_other 34) (value_byte c) ≡ true

written : (c : ℕ) → IsWritten c
written c = by_tests (c == 38) (c == 60) (c == 34) (c == 9) (c == 10) (c == 13) refl refl refl refl refl refl where
  one : (k : ℕ) → k < 128 → (c == k) ≡ true → encode_utf8 k ≡ c ∷ []
  one k h e = let is : k ≡ c = grind (arith, nat_tests) in encode_ascii k h ∙ ap (λ z. z ∷ []) is

  by_tests : (a b d e f g : Bool) → (c == 38) ≡ a → (c == 60) ≡ b → (c == 34) ≡ d → (c == 9) ≡ e → (c == 10) ≡ f → (c == 13) ≡ g → IsWritten c
  by_tests true b d e f g h i j k l m = record { text = rw h refl; value = rw h (one 38 (omega arith) h); is = rw h refers_ampersand; other = rw h refl }
  by_tests false true d e f g h i j k l m = record { text = rw (h, i) refl; value = rw (h, i) (one 60 (omega arith) i); is = rw (h, i) refers_less; other = rw (h, i) refl }
  by_tests false false true e f g h i j k l m = record { text = rw (h, i, j) refl; value = rw (h, i, j) (one 34 (omega arith) j); is = rw (h, i, j) refers_quotation; other = rw (h, i, j) refl }
  by_tests false false false true f g h i j k l m =
      record { text = rw (h, i, j, k) refl; value = rw (h, i, j, k) (one 9 (omega arith) k); is = rw (h, i, j, k) refers_tabulator; other = rw (h, i, j, k) refl }
  by_tests false false false false true g h i j k l m =
      record { text = rw (h, i, j, k, l) refl; value = rw (h, i, j, k, l) (one 10 (omega arith) l); is = rw (h, i, j, k, l) refers_line_feed; other = rw (h, i, j, k, l) refl }
  by_tests false false false false false true h i j k l m =
      record { text = rw (h, i, j, k, l, m) refl; value = rw (h, i, j, k, l, m) (one 13 (omega arith) m); is = rw (h, i, j, k, l, m) refers_return; other = rw (h, i, j, k, l, m) refl }
  by_tests false false false false false false h i j k l m = record {
    text = rw (h, i, j, k, l, m) refl;
    value = rw (h, i, j, k, l, m) (ap (λ z. z ∷ []) plain);
    is = rw (h, i, j, k, l, m) (i, h);
    other = rw (h, i, j, k, l, m) (rw j refl);
  } where
    plain : space_if_white c ≡ c
    plain = grind (arith, nat_tests)

-- values
each_piece : (v : List ℕ) → AllByRecursion IsPiece (map byte_piece v)
each_piece [] = tt
each_piece (c ∷ v) = ((written c).is, each_piece v)

text_whole : (v : List ℕ) → flat_map value_byte v ≡ flat_map piece_text (map byte_piece v)
text_whole [] = refl
text_whole (c ∷ v) = ap (λ z. z ++ flat_map value_byte v) (sym (written c).text) ∙ ap (λ z. piece_text (byte_piece c) ++ z) (text_whole v)

value_gives : (v : List ℕ) → v ≡ flat_map (piece_value space_if_white) (map byte_piece v)
value_gives [] = refl
value_gives (c ∷ v) = ap (λ z. c ∷ z) (value_gives v) ∙ ap (λ z. z ++ flat_map (piece_value space_if_white) (map byte_piece v)) (sym (written c).value)

no_quote : (v : List ℕ) → list_all (is_other 34) (flat_map value_byte v) ≡ true
no_quote [] = refl
no_quote (c ∷ v) = list_all-append (is_other 34) (value_byte c) (flat_map value_byte v) ∙ rw ((written c).other, no_quote v) refl

abbrev is_plain_char : ℕ → Bool
is_plain_char c = nat_lt c 128 && is_char c

ascii_chars : (x : List ℕ) → list_all is_plain_char x ≡ true → AreChars x
ascii_chars [] e = no_chars
ascii_chars (c ∷ x) e =
    let both = and_true (is_plain_char c) (list_all is_plain_char x) e in
    let own = and_true (nat_lt c 128) (is_char c) both.0 in
    let small : c < 128 = grind (arith, nat_tests) in
    more_chars (c ∷ []) x (subst AreChars (encode_ascii c small) (one_char c own.1)) (ascii_chars x both.1)

byte_chars : (c : ℕ) → c < 128 → is_char c ≡ true → AreChars (value_byte c)
unfolding is_char
byte_chars c h e = by_tests (c == 38) (c == 60) (c == 34) (c == 9) (c == 10) (c == 13) where
  by_tests : (a b d f g k : Bool)
      → AreChars (if a then (codes "&amp;") else (if b then (codes "&lt;") else (if d then (codes "&quot;") else (if f then (codes "&#x9;") else (if g then (codes "&#xA;") else (if k then (codes "&#xD;") else c ∷ []))))))
  by_tests true b d f g k = ascii_chars (codes "&amp;") refl
  by_tests false true d f g k = ascii_chars (codes "&lt;") refl
  by_tests false false true f g k = ascii_chars (codes "&quot;") refl
  by_tests false false false true g k = ascii_chars (codes "&#x9;") refl
  by_tests false false false false true k = ascii_chars (codes "&#xA;") refl
  by_tests false false false false false true = ascii_chars (codes "&#xD;") refl
  by_tests false false false false false false = subst AreChars (encode_ascii c h) (one_char c e)

high_byte : (c : ℕ) → is_high c ≡ true → value_byte c ≡ c ∷ []
high_byte c e = grind (arith, nat_tests)

high_stays : (x : List ℕ) → list_all is_high x ≡ true → flat_map value_byte x ≡ x
high_stays [] e = refl
high_stays (c ∷ x) e =
    let both = and_true (is_high c) (list_all is_high x) e in
    ap (λ z. z ++ flat_map value_byte x) (high_byte c both.0) ∙ ap (λ z. c ∷ z) (high_stays x both.1)

char_chars : (c : ℕ) → is_char c ≡ true → AreChars (flat_map value_byte (encode_utf8 c))
char_chars c e = by_size (ltb c 128) refl where
  by_size : (b : Bool) → ltb c 128 ≡ b → AreChars (flat_map value_byte (encode_utf8 c))
  by_size true s =
      let h = ltb-true c 128 s in
      subst (λ z. AreChars (flat_map value_byte z)) (sym (encode_ascii c h)) (subst AreChars (sym (append-nil (value_byte c))) (byte_chars c h e))
  by_size false s =
      let h : 128 ≤ c = ltb-false c 128 s in
      subst AreChars (sym (high_stays (encode_utf8 c) (encode_bytes is_high high_high c (λ k. absurd (omega arith))))) (one_char c e)

all_chars : (cs : List ℕ) → list_all is_char cs ≡ true → AreChars (flat_map value_byte (encodes cs))
all_chars [] e = no_chars
all_chars (c ∷ cs) e =
    let both = and_true (is_char c) (list_all is_char cs) e in
    subst AreChars (sym (flat_map-append value_byte (encode c) (encodes cs))) (more_chars (flat_map value_byte (encode c)) (flat_map value_byte (encodes cs)) (char_chars c both.0) (all_chars cs both.1))

value_written : (v : List ℕ) → AreChars v → IsValue space_if_white v (flat_map value_byte v)
value_written v a = record {
  text = subst (λ z. AreChars (flat_map value_byte z)) (encodes-chars v (chars_text v a)) (all_chars (chars v) (chars_lawful v a));
  pieces = map byte_piece v;
  each = each_piece v;
  whole = text_whole v;
  gives = value_gives v;
}

-- the attributes of a tag, as they are written
abbrev pub tag_attributes : List (List ℕ × List ℕ) → List ℕ
tag_attributes [] = []
tag_attributes (a ∷ attrs) = 32 ∷ (attribute_text a.0 a.1 ++ tag_attributes attrs)

-- tags
attribute_written : (n v : List ℕ) → IsName n → AreChars v → IsAttribute n v (32 ∷ attribute_text n v)
attribute_written n v name a = record {
  space = 32 ∷ [];
  spaced = refl;
  named = name;
  eq = 61 ∷ [];
  is_eq = record { space = []; after = []; spaced = refl; spaced_after = refl; whole = refl };
  inner = flat_map value_byte v;
  is_value = value_written v a;
  quotes = 34 ∷ (flat_map value_byte v ++ 34 ∷ []);
  quoted = record { quote = 34; quoted = refl; closed = no_quote v; whole = refl };
  whole = refl;
}

attributes_written : (attrs : List (List ℕ × List ℕ)) → AllByRecursion (λ a. IsName a.0 × AreChars a.1) attrs → AreAttributes attrs (tag_attributes attrs)
attributes_written [] each = refl
attributes_written ((n, v) ∷ attrs) each =
    (32 ∷ attribute_text n v, tag_attributes attrs, attribute_written n v each.0.0 each.0.1, attributes_written attrs each.1, refl)

no_name : (n : List ℕ) (attrs : List (List ℕ × List ℕ)) → AllByRecursion (λ b. n ≢ b.0) attrs → has_name n attrs ≡ false
no_name n [] all = refl
no_name n ((m, v) ∷ attrs) all = by_test (bytes_eq m n) refl (no_name n attrs all.1) where
  by_test : (b : Bool) → bytes_eq m n ≡ b → has_name n attrs ≡ false → has_name n ((m, v) ∷ attrs) ≡ false
  by_test true e others = absurd (all.0 (sym ((bytes_eq-Decides m n).0 e)))
  by_test false e others = rw (e, others) refl

distinct_written : (attrs : List (List ℕ × List ℕ)) → HaveDistinctNames attrs → are_distinct attrs ≡ true
distinct_written [] d = refl
distinct_written ((n, v) ∷ attrs) d = rw (no_name n attrs d.0, distinct_written attrs d.1) refl

tag_written : (n : List ℕ) (attrs : List (List ℕ × List ℕ)) (close : List ℕ) → IsName n → AreLawfulAttributes attrs → IsStart n attrs close (60 ∷ (n ++ (tag_attributes attrs ++ close)))
tag_written n attrs close name a = record {
  named = name;
  inner = tag_attributes attrs;
  given = attributes_written attrs a.each;
  distinct = distinct_written attrs a.distinct;
  space = [];
  spaced = refl;
  whole = refl;
}

pub instruction_written : (n v : List ℕ) → IsTarget n → IsInstructionValue v → IsToken (Instruction n v) (instruction_text n v)
instruction_written n [] target i = record { named = target; space = []; apart = refl; text = i.text; no_end = i.no_end; whole = refl }
instruction_written n (c ∷ cs) target i = record { named = target; space = 32 ∷ []; apart = rw i.no_space refl; text = i.text; no_end = i.no_end; whole = refl }

not_equal : (c k : ℕ) → c ≢ k → (c == k) ≡ false
not_equal c k h = by_test (c == k) refl where
  by_test : (b : Bool) → (c == k) ≡ b → (c == k) ≡ false
  by_test true e = let is : c ≡ k = grind (arith, nat_tests) in absurd (h is)
  by_test false e = e

pub character_written : (c : ℕ) → is_char c ≡ true → c ≢ 60 → c ≢ 38 → IsToken (Character c) (encode_utf8 c)
character_written c e less amp = record { lawful = e; no_less = not_equal c 60 less; no_and = not_equal c 38 amp; whole = refl }

pub start_written : (name : List ℕ) (attributes : List (List ℕ × List ℕ)) → IsName name → AreLawfulAttributes attributes
    → IsToken (Start name attributes) (60 ∷ (name ++ (tag_attributes attributes ++ 62 ∷ [])))
start_written n attrs name a = tag_written n attrs (62 ∷ []) name a

pub empty_written : (name : List ℕ) (attributes : List (List ℕ × List ℕ)) → IsName name → AreLawfulAttributes attributes
    → IsToken (Empty name attributes) (60 ∷ (name ++ (tag_attributes attributes ++ 47 ∷ 62 ∷ [])))
empty_written n attrs name a = tag_written n attrs (47 ∷ 62 ∷ []) name a

pub end_written : (name : List ℕ) → IsName name → IsToken (End name) (end_tag_text name)
end_written n name = record { named = name; space = []; spaced = refl; whole = refl }

pub comment_written : (value : List ℕ) → IsCommentValue value → IsToken (Comment value) (comment_text value)
comment_written v c = record { text = c.text; no_dashes = c.no_dashes; whole = refl }
