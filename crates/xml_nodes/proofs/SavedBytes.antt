-- The saved bytes of a lawful document spell it, with neighbouring texts joined.
use Rattle.std.proofs.Common.{◌≡◌, ◌≢◌, ℕ, ◌≤◌, ◌<◌, Bool, true, false, List, [], ◌∷◌, ◌++◌, refl, ap, sym, ◌∙◌, subst, append_assoc, append-nil, arith}
use Rattle.std.specs.Prelude.{◌==◌, ◌||◌, ◌&&◌, not, map, if◌then◌else◌, codes}
use Rattle.std.specs.Char.{encode_utf8}
use Rattle.std.specs.List.{list_all, flat_map, AllByRecursion}
use Rattle.std.specs.Str.{chars}
use Rattle.std.proofs.lemmas.Bool.Decides.{nat_tests}
use Rattle.std.proofs.lemmas.Str.{encodes-chars, encode_ascii}
use Rattle.std.proofs.lemmas.List.Folds.{list_all-append}
use Rattle.std.proofs.lemmas.Grind.{flat_map-append}
use lib.Utf8.{encodes, encode}
use lib.Dec.{ltb}
use borrow.Author.Tests.{ltb-true, ltb-false}
use Rattle.plain_tree.specs.declared.kind.Kind.TheVariants as kind
use Rattle.plain_tree.specs.Tree.{Tree, node, Trees, none, more}
use Rattle.xml_nodes.proofs.CharacterLemmas.{chars_text, chars_lawful, target_name, and_true}
use Rattle.xml_nodes.proofs.NameBytes.{names_are_safe, is_high, high_high}
use Rattle.xml_tokens.proofs.Texts.{encode_bytes}
use Rattle.xml_nodes.proofs.Place.{safe_no_return}
use Rattle.xml_nodes.proofs.LineEnds.{no_return_stays}
use Rattle.xml_nodes.proofs.Saving.{saved-is_document}
use Rattle.plain_tree.specs.XmlNames.{is_char}
use Rattle.plain_tree.specs.Lawful.{AreChars, IsName, has_no_return, IsNew, AreElementKids, AreDocumentKids, IsLawfulTree, AreLawfulTrees, IsDocument}
use Rattle.xml_tokens.specs.Tokens.{Token, Character, Reference, Start, Empty, End, Comment, Instruction, AreTokens, IsToken}
use Rattle.xml_nodes.specs.LawfulTokens.{AreLawfulAttributes}
use Rattle.xml_nodes.specs.Content.{attributes_among}
use Rattle.plain_tree.specs.Joined.{joined}
use Rattle.xml_nodes.specs.Saved.{text_byte, value_byte, after_space, element_end, is_attribute, attribute_text, comment_text, instruction_text, end_tag_text, before_kid, spelling, kids_text, lines_of, saved_bytes}
use Rattle.xml_nodes.specs.SavedTokens.{text_token, text_tokens, has_content, tree_tokens, all_tokens, line_tokens}
use Rattle.xml_nodes.specs.Spelling.{Spells}
use Rattle.xml_nodes.proofs.WrittenFacts.{tag_attributes, refers_ampersand, refers_less, refers_greater, refers_return, character_written, start_written, empty_written, end_written, comment_written, instruction_written}

-- how a character of a text is written
abbrev written : ℕ → List ℕ
written c = flat_map text_byte (encode_utf8 c)

text_is_written : (cs : List ℕ) → flat_map text_byte (encodes cs) ≡ flat_map written cs
text_is_written [] = refl
text_is_written (c ∷ cs) = flat_map-append text_byte (encode c) (encodes cs) ∙ ap (λ z. written c ++ z) (text_is_written cs)

high_byte : (c : ℕ) → is_high c ≡ true → text_byte c ≡ c ∷ []
high_byte c e = grind (arith, nat_tests)

high_stays : (x : List ℕ) → list_all is_high x ≡ true → flat_map text_byte x ≡ x
high_stays [] e = refl
high_stays (c ∷ x) e =
    let both = and_true (is_high c) (list_all is_high x) e in
    ap (λ z. z ++ flat_map text_byte x) (high_byte c both.0) ∙ ap (λ z. c ∷ z) (high_stays x both.1)

plain_byte : (c : ℕ) → (c == 38 || c == 60 || c == 62 || c == 13) ≡ false → text_byte c ≡ c ∷ []
plain_byte c e = by_tests (c == 38) (c == 60) (c == 62) (c == 13) refl refl refl refl where
  by_tests : (a b d f : Bool) → (c == 38) ≡ a → (c == 60) ≡ b → (c == 62) ≡ d → (c == 13) ≡ f → text_byte c ≡ c ∷ []
  by_tests true b d f g h i j = let bad = rw g at e in cc
  by_tests false true d f g h i j = let bad = rw (g, h) at e in cc
  by_tests false false true f g h i j = let bad = rw (g, h, i) at e in cc
  by_tests false false false true g h i j = let bad = rw (g, h, i, j) at e in cc
  by_tests false false false false g h i j = rw (g, h, i, j) refl

plain_written : (c : ℕ) → (c == 38 || c == 60 || c == 62 || c == 13) ≡ false → written c ≡ encode_utf8 c
plain_written c e = by_size (ltb c 128) refl where
  by_size : (b : Bool) → ltb c 128 ≡ b → written c ≡ encode_utf8 c
  by_size true s =
      let one = encode_ascii c (ltb-true c 128 s) in
      ap (λ z. flat_map text_byte z) one ∙ append-nil (text_byte c) ∙ plain_byte c e ∙ sym one
  by_size false s =
      let h : 128 ≤ c = ltb-false c 128 s in
      high_stays (encode_utf8 c) (encode_bytes is_high high_high c (λ k. absurd (omega arith)))

escaped_written : (c : ℕ) → c < 128 → written c ≡ text_byte c ++ []
escaped_written c h = ap (λ z. flat_map text_byte z) (encode_ascii c h)

-- the attributes of a lawful element are lawful
none_new : (n : List ℕ) (ts : Trees) → IsNew n ts → AllByRecursion (λ b. n ≢ b.0) (attributes_among ts)
none_new n none i = tt
none_new n (more (node kind.Attribute m v ks) ts) i = (i.0 refl, none_new n ts i.1)
none_new n (more (node kind.Document m v ks) ts) i = tt
none_new n (more (node kind.Element m v ks) ts) i = tt
none_new n (more (node kind.Text m v ks) ts) i = tt
none_new n (more (node kind.Comment m v ks) ts) i = tt
none_new n (more (node kind.Instruction m v ks) ts) i = tt

no_lawful_attributes : AreLawfulAttributes []
no_lawful_attributes = record { each = tt; distinct = tt }

lawful_attributes : (ts : Trees) → AreElementKids true ts → AreLawfulTrees ts → AreLawfulAttributes (attributes_among ts)
lawful_attributes none k l = no_lawful_attributes
lawful_attributes (more (node kind.Attribute n v ks) ts) k l =
    let below = lawful_attributes ts k.2 l.1 in
    record { each = (l.0.0, below.each); distinct = (none_new n ts k.1, below.distinct) }
lawful_attributes (more (node kind.Document n v ks) ts) k l = no_lawful_attributes
lawful_attributes (more (node kind.Element n v ks) ts) k l = no_lawful_attributes
lawful_attributes (more (node kind.Text n v ks) ts) k l = no_lawful_attributes
lawful_attributes (more (node kind.Comment n v ks) ts) k l = no_lawful_attributes
lawful_attributes (more (node kind.Instruction n v ks) ts) k l = no_lawful_attributes

-- the kids behind the attributes, and the end tag
abbrev inner_text : Trees → List ℕ → List ℕ
inner_text none name = kids_text false none name
inner_text (more (node kind.Attribute n v ks) ts) name = inner_text ts name
inner_text (more (node kind.Document n v ks) ts) name = kids_text false (more (node kind.Document n v ks) ts) name
inner_text (more (node kind.Element n v ks) ts) name = kids_text false (more (node kind.Element n v ks) ts) name
inner_text (more (node kind.Text n v ks) ts) name = kids_text false (more (node kind.Text n v ks) ts) name
inner_text (more (node kind.Comment n v ks) ts) name = kids_text false (more (node kind.Comment n v ks) ts) name
inner_text (more (node kind.Instruction n v ks) ts) name = kids_text false (more (node kind.Instruction n v ks) ts) name

attribute_shape : (first others last : List ℕ) → (32 ∷ []) ++ (first ++ (others ++ last)) ≡ (32 ∷ (first ++ others)) ++ last
attribute_shape first others last = ap (λ z. 32 ∷ z) (sym (append_assoc first others last))

open_text : (ts : Trees) (name : List ℕ) → has_content ts ≡ true → kids_text true ts name ≡ tag_attributes (attributes_among ts) ++ 62 ∷ inner_text ts name
open_text none name e = cc
open_text (more (node kind.Attribute n v ks) ts) name e =
    ap (λ z. (32 ∷ []) ++ (attribute_text n v ++ z)) (open_text ts name e) ∙ attribute_shape (attribute_text n v) (tag_attributes (attributes_among ts)) (62 ∷ inner_text ts name)
open_text (more (node kind.Document n v ks) ts) name e = refl
open_text (more (node kind.Element n v ks) ts) name e = refl
open_text (more (node kind.Text n v ks) ts) name e = refl
open_text (more (node kind.Comment n v ks) ts) name e = refl
open_text (more (node kind.Instruction n v ks) ts) name e = refl

empty_text : (ts : Trees) (name : List ℕ) → has_content ts ≡ false → kids_text true ts name ≡ tag_attributes (attributes_among ts) ++ 47 ∷ 62 ∷ []
empty_text none name e = refl
empty_text (more (node kind.Attribute n v ks) ts) name e =
    ap (λ z. (32 ∷ []) ++ (attribute_text n v ++ z)) (empty_text ts name e) ∙ attribute_shape (attribute_text n v) (tag_attributes (attributes_among ts)) (47 ∷ 62 ∷ [])
empty_text (more (node kind.Document n v ks) ts) name e = cc
empty_text (more (node kind.Element n v ks) ts) name e = cc
empty_text (more (node kind.Text n v ks) ts) name e = cc
empty_text (more (node kind.Comment n v ks) ts) name e = cc
empty_text (more (node kind.Instruction n v ks) ts) name e = cc

start_shape : (name attrs inner bytes : List ℕ) → (60 ∷ (name ++ (attrs ++ 62 ∷ inner))) ++ bytes ≡ (60 ∷ (name ++ (attrs ++ 62 ∷ []))) ++ (inner ++ bytes)
start_shape name attrs inner bytes = simp append_assoc

-- no #xD is written
both_no_return : (x y : List ℕ) → has_no_return x ≡ true → has_no_return y ≡ true → has_no_return (x ++ y) ≡ true
both_no_return x y e f = list_all-append (λ c. not (c == 13)) x y ∙ rw (e, f) refl

text_byte_clean : (c : ℕ) → has_no_return (text_byte c) ≡ true
text_byte_clean c = by_tests (c == 38) (c == 60) (c == 62) (c == 13) refl where
  by_tests : (a b d f : Bool) → (c == 13) ≡ f
      → has_no_return (if a then (codes "&amp;") else (if b then (codes "&lt;") else (if d then (codes "&gt;") else (if f then (codes "&#xD;") else c ∷ [])))) ≡ true
  by_tests true b d f e = refl
  by_tests false true d f e = refl
  by_tests false false true f e = refl
  by_tests false false false true e = refl
  by_tests false false false false e = rw e refl

value_byte_clean : (c : ℕ) → has_no_return (value_byte c) ≡ true
value_byte_clean c = by_tests (c == 38) (c == 60) (c == 34) (c == 9) (c == 10) (c == 13) refl where
  by_tests : (a b d g h f : Bool) → (c == 13) ≡ f
      → has_no_return (if a then (codes "&amp;") else (if b then (codes "&lt;") else (if d then (codes "&quot;") else (if g then (codes "&#x9;") else (if h then (codes "&#xA;") else (if f then (codes "&#xD;") else c ∷ [])))))) ≡ true
  by_tests true b d g h f e = refl
  by_tests false true d g h f e = refl
  by_tests false false true g h f e = refl
  by_tests false false false true h f e = refl
  by_tests false false false false true f e = refl
  by_tests false false false false false true e = refl
  by_tests false false false false false false e = rw e refl

bytes_clean : (f : ℕ → List ℕ) → ((c : ℕ) → has_no_return (f c) ≡ true) → (v : List ℕ) → has_no_return (flat_map f v) ≡ true
bytes_clean f h [] = refl
bytes_clean f h (c ∷ v) = both_no_return (f c) (flat_map f v) (h c) (bytes_clean f h v)

name_clean : (n : List ℕ) → IsName n → has_no_return n ≡ true
name_clean n name = safe_no_return n (names_are_safe n name)

attribute_clean : (n v : List ℕ) → IsName n → has_no_return (attribute_text n v) ≡ true
attribute_clean n v name = both_no_return n (61 ∷ 34 ∷ (flat_map value_byte v ++ 34 ∷ [])) (name_clean n name)
    (both_no_return (flat_map value_byte v) (34 ∷ []) (bytes_clean value_byte value_byte_clean v) refl)

comment_clean : (v : List ℕ) → has_no_return v ≡ true → has_no_return (comment_text v) ≡ true
comment_clean v e = both_no_return v (45 ∷ 45 ∷ 62 ∷ []) e refl

after_space_clean : (v : List ℕ) → has_no_return v ≡ true → has_no_return (after_space v) ≡ true
after_space_clean [] e = refl
after_space_clean (c ∷ v) e = e

instruction_clean : (n v : List ℕ) → IsName n → has_no_return v ≡ true → has_no_return (instruction_text n v) ≡ true
instruction_clean n v name e = both_no_return n (after_space v ++ 63 ∷ 62 ∷ []) (name_clean n name) (both_no_return (after_space v) (63 ∷ 62 ∷ []) (after_space_clean v e) refl)

end_clean : (in_tag : Bool) (n : List ℕ) → has_no_return n ≡ true → has_no_return (element_end in_tag n) ≡ true
end_clean true n name = refl
end_clean false n name = both_no_return n (62 ∷ []) name refl

before_clean : (in_tag : Bool) (t : Tree) → has_no_return (before_kid in_tag t) ≡ true
before_clean false t = refl
before_clean true t = by_test (is_attribute t) where
  by_test : (b : Bool) → has_no_return (if b then 32 ∷ [] else 62 ∷ []) ≡ true
  by_test true = refl
  by_test false = refl

mutual
  spelling_clean : (t : Tree) → IsLawfulTree t → has_no_return (spelling t) ≡ true
  spelling_clean (node kind.Element n v ks) l = both_no_return n (kids_text true ks n) (name_clean n l.0.0) (kids_clean ks true n (name_clean n l.0.0) l.2)
  spelling_clean (node kind.Document n v ks) l = both_no_return n (kids_text true ks n) (subst (λ z. has_no_return z ≡ true) (sym l.0.0) refl) (kids_clean ks true n (subst (λ z. has_no_return z ≡ true) (sym l.0.0) refl) l.2)
  spelling_clean (node kind.Attribute n v ks) l = attribute_clean n v l.0.0
  spelling_clean (node kind.Text n v ks) l = bytes_clean text_byte text_byte_clean v
  spelling_clean (node kind.Comment n v ks) l = comment_clean v l.0.1.no_return
  spelling_clean (node kind.Instruction n v ks) l = instruction_clean n v (target_name n l.0.0) l.0.1.no_return

  kids_clean : (ts : Trees) (in_tag : Bool) (n : List ℕ) → has_no_return n ≡ true → AreLawfulTrees ts → has_no_return (kids_text in_tag ts n) ≡ true
  kids_clean none in_tag n name l = end_clean in_tag n name
  kids_clean (more t ts) in_tag n name l =
      both_no_return (before_kid in_tag t) (spelling t ++ kids_text (in_tag && is_attribute t) ts n) (before_clean in_tag t)
      (both_no_return (spelling t) (kids_text (in_tag && is_attribute t) ts n) (spelling_clean t l.0) (kids_clean ts (in_tag && is_attribute t) n name l.1))

saved_no_return : (ts : Trees) → AreLawfulTrees ts → has_no_return (lines_of ts) ≡ true
saved_no_return none l = refl
saved_no_return (more t ts) l = both_no_return (spelling t ++ 10 ∷ []) (lines_of ts) (both_no_return (spelling t) (10 ∷ []) (spelling_clean t l.0) refl) (saved_no_return ts l.1)

abbrev Cut : List Token → List ℕ → Type 0
Cut ts bytes = AreTokens ts bytes []

-- one token in front
cut_more : (t : Token) (ts : List Token) (text bytes : List ℕ) → IsToken t text → Cut ts bytes → Cut (t ∷ ts) (text ++ bytes)
cut_more t ts text bytes is cut = (text, bytes, is, refl, cut)

token_written : (c : ℕ) → is_char c ≡ true → IsToken (text_token c) (written c)
token_written c e = by_tests (c == 38) (c == 60) (c == 62) (c == 13) refl refl refl refl where
  escaped : (k : ℕ) → k < 128 → c ≡ k → IsToken (Reference k) (text_byte k ++ []) → IsToken (Reference c) (written c)
  escaped k h is t = subst (λ z. IsToken (Reference z) (written z)) (sym is) (subst (IsToken (Reference k)) (sym (escaped_written k h)) t)

  by_tests : (a b d f : Bool) → (c == 38) ≡ a → (c == 60) ≡ b → (c == 62) ≡ d → (c == 13) ≡ f → IsToken (text_token c) (written c)
  by_tests true b d f g h i j = rw g (escaped 38 (omega arith) (grind (arith, nat_tests)) refers_ampersand)
  by_tests false true d f g h i j = rw (g, h) (escaped 60 (omega arith) (grind (arith, nat_tests)) refers_less)
  by_tests false false true f g h i j = rw (g, h, i) (escaped 62 (omega arith) (grind (arith, nat_tests)) refers_greater)
  by_tests false false false true g h i j = rw (g, h, i, j) (escaped 13 (omega arith) (grind (arith, nat_tests)) refers_return)
  by_tests false false false false g h i j =
      rw (g, h, i, j) (subst (IsToken (Character c)) (sym (plain_written c (rw (g, h, i, j) refl)))
      (character_written c e (λ is. let t : (c == 60) ≡ true = grind (arith, nat_tests) in let bad = sym h ∙ t in cc) (λ is. let t : (c == 38) ≡ true = grind (arith, nat_tests) in let bad = sym g ∙ t in cc)))

chars_cut : (cs : List ℕ) (ts : List Token) (bytes : List ℕ) → list_all is_char cs ≡ true → Cut ts bytes → Cut (map text_token cs ++ ts) (flat_map written cs ++ bytes)
chars_cut [] ts bytes e cut = cut
chars_cut (c ∷ cs) ts bytes e cut =
    let both = and_true (is_char c) (list_all is_char cs) e in
    subst (λ z. Cut (text_token c ∷ (map text_token cs ++ ts)) z) (sym (append_assoc (written c) (flat_map written cs) bytes))
    (cut_more (text_token c) (map text_token cs ++ ts) (written c) (flat_map written cs ++ bytes) (token_written c both.0) (chars_cut cs ts bytes both.1 cut))

text_cut : (v : List ℕ) (ts : List Token) (bytes : List ℕ) → AreChars v → Cut ts bytes → Cut (text_tokens v ++ ts) (flat_map text_byte v ++ bytes)
text_cut v ts bytes a cut =
    subst (λ z. Cut (text_tokens v ++ ts) (z ++ bytes)) (sym (text_is_written (chars v)) ∙ ap (λ z. flat_map text_byte z) (encodes-chars v (chars_text v a)))
    (chars_cut (chars v) ts bytes (chars_lawful v a) cut)

element_cut : (n v : List ℕ) (ks : Trees) (next : List Token) (bytes : List ℕ) → IsLawfulTree (node kind.Element n v ks)
    → (Cut next bytes → Cut (all_tokens ks (End n ∷ next)) (inner_text ks n ++ bytes)) → Cut next bytes
    → Cut (tree_tokens (node kind.Element n v ks) next) (spelling (node kind.Element n v ks) ++ bytes)
element_cut n v ks next bytes l inner cut = by_test (has_content ks) refl where
  attrs : List (List ℕ × List ℕ)
  attrs = attributes_among ks

  by_test : (b : Bool) → has_content ks ≡ b → Cut (tree_tokens (node kind.Element n v ks) next) (spelling (node kind.Element n v ks) ++ bytes)
  by_test true e =
      rw e (subst (λ z. Cut (Start n (attributes_among ks) ∷ all_tokens ks (End n ∷ next)) z)
      (sym (ap (λ z. (60 ∷ (n ++ z)) ++ bytes) (open_text ks n e) ∙ start_shape n (tag_attributes (attributes_among ks)) (inner_text ks n) bytes))
      (cut_more (Start n (attributes_among ks)) (all_tokens ks (End n ∷ next)) (60 ∷ (n ++ (tag_attributes (attributes_among ks) ++ 62 ∷ []))) (inner_text ks n ++ bytes)
      (start_written n (attributes_among ks) l.0.0 (lawful_attributes ks l.1 l.2)) (inner cut)))
  by_test false e =
      rw e (subst (λ z. Cut (Empty n (attributes_among ks) ∷ next) z) (sym (ap (λ z. (60 ∷ (n ++ z)) ++ bytes) (empty_text ks n e)))
      (cut_more (Empty n (attributes_among ks)) next (60 ∷ (n ++ (tag_attributes (attributes_among ks) ++ 47 ∷ 62 ∷ []))) bytes
      (empty_written n (attributes_among ks) l.0.0 (lawful_attributes ks l.1 l.2)) cut))

-- one kid more
regroup : (ts : List Token) (first others bytes : List ℕ) → Cut ts (first ++ (others ++ bytes)) → Cut ts (([] ++ (first ++ others)) ++ bytes)
regroup ts first others bytes cut = subst (λ z. Cut ts z) (sym (append_assoc first others bytes)) cut

Kids : Trees → List ℕ → List Token → List ℕ → Type 0
Kids ts n next bytes = Cut (all_tokens ts (End n ∷ next)) (kids_text false ts n ++ bytes)

text_kid : (m v : List ℕ) (ks ts : Trees) (n : List ℕ) (next : List Token) (bytes : List ℕ) → AreLawfulTrees (more (node kind.Text m v ks) ts) → Kids ts n next bytes
    → Kids (more (node kind.Text m v ks) ts) n next bytes
unfolding Kids
text_kid m v ks ts n next bytes l cut =
    regroup (text_tokens v ++ all_tokens ts (End n ∷ next)) (flat_map text_byte v) (kids_text false ts n) bytes
    (text_cut v (all_tokens ts (End n ∷ next)) (kids_text false ts n ++ bytes) l.0.0.1.0 cut)

comment_kid : (m v : List ℕ) (ks ts : Trees) (n : List ℕ) (next : List Token) (bytes : List ℕ) → AreLawfulTrees (more (node kind.Comment m v ks) ts) → Kids ts n next bytes
    → Kids (more (node kind.Comment m v ks) ts) n next bytes
unfolding Kids
comment_kid m v ks ts n next bytes l cut =
    regroup (Comment v ∷ all_tokens ts (End n ∷ next)) (comment_text v) (kids_text false ts n) bytes
    (cut_more (Comment v) (all_tokens ts (End n ∷ next)) (comment_text v) (kids_text false ts n ++ bytes) (comment_written v l.0.0.1) cut)

instruction_kid : (m v : List ℕ) (ks ts : Trees) (n : List ℕ) (next : List Token) (bytes : List ℕ) → AreLawfulTrees (more (node kind.Instruction m v ks) ts) → Kids ts n next bytes
    → Kids (more (node kind.Instruction m v ks) ts) n next bytes
unfolding Kids
instruction_kid m v ks ts n next bytes l cut =
    regroup (Instruction m v ∷ all_tokens ts (End n ∷ next)) (instruction_text m v) (kids_text false ts n) bytes
    (cut_more (Instruction m v) (all_tokens ts (End n ∷ next)) (instruction_text m v) (kids_text false ts n ++ bytes) (instruction_written m v l.0.0.0 l.0.0.1) cut)

element_kid : (m v : List ℕ) (ks ts : Trees) (n : List ℕ) (next : List Token) (bytes : List ℕ) → AreLawfulTrees (more (node kind.Element m v ks) ts)
    → ((more_tokens : List Token) (more_bytes : List ℕ) → Cut more_tokens more_bytes → Cut (all_tokens ks (End m ∷ more_tokens)) (inner_text ks m ++ more_bytes))
    → Kids ts n next bytes → Kids (more (node kind.Element m v ks) ts) n next bytes
unfolding Kids
element_kid m v ks ts n next bytes l inner cut =
    regroup (tree_tokens (node kind.Element m v ks) (all_tokens ts (End n ∷ next))) (spelling (node kind.Element m v ks)) (kids_text false ts n) bytes
    (element_cut m v ks (all_tokens ts (End n ∷ next)) (kids_text false ts n ++ bytes) l.0 (inner (all_tokens ts (End n ∷ next)) (kids_text false ts n ++ bytes)) cut)

mutual
  unfolding Kids

  kids_cut : (ts : Trees) (n : List ℕ) (next : List Token) (bytes : List ℕ) → AreElementKids false ts → AreLawfulTrees ts → IsName n → Cut next bytes → Kids ts n next bytes
  kids_cut none n next bytes k l name cut = cut_more (End n) next (end_tag_text n) bytes (end_written n name) cut
  kids_cut (more (node kind.Text m v ks) ts) n next bytes k l name cut = text_kid m v ks ts n next bytes l (kids_cut ts n next bytes k l.1 name cut)
  kids_cut (more (node kind.Comment m v ks) ts) n next bytes k l name cut = comment_kid m v ks ts n next bytes l (kids_cut ts n next bytes k l.1 name cut)
  kids_cut (more (node kind.Instruction m v ks) ts) n next bytes k l name cut = instruction_kid m v ks ts n next bytes l (kids_cut ts n next bytes k l.1 name cut)
  kids_cut (more (node kind.Element m v ks) ts) n next bytes k l name cut =
      element_kid m v ks ts n next bytes l (λ us b c. inner_cut ks m us b l.0.1 l.0.2 l.0.0.0 c) (kids_cut ts n next bytes k l.1 name cut)
  kids_cut (more (node kind.Document m v ks) ts) n next bytes k l name cut = absurd k
  kids_cut (more (node kind.Attribute m v ks) ts) n next bytes k l name cut = let bad = k.0 in cc

  inner_cut : (ts : Trees) (n : List ℕ) (next : List Token) (bytes : List ℕ) → AreElementKids true ts → AreLawfulTrees ts → IsName n → Cut next bytes
      → Cut (all_tokens ts (End n ∷ next)) (inner_text ts n ++ bytes)
  inner_cut none n next bytes k l name cut = cut_more (End n) next (end_tag_text n) bytes (end_written n name) cut
  inner_cut (more (node kind.Attribute m v ks) ts) n next bytes k l name cut = inner_cut ts n next bytes k.2 l.1 name cut
  inner_cut (more (node kind.Text m v ks) ts) n next bytes k l name cut = text_kid m v ks ts n next bytes l (kids_cut ts n next bytes k l.1 name cut)
  inner_cut (more (node kind.Comment m v ks) ts) n next bytes k l name cut = comment_kid m v ks ts n next bytes l (kids_cut ts n next bytes k l.1 name cut)
  inner_cut (more (node kind.Instruction m v ks) ts) n next bytes k l name cut = instruction_kid m v ks ts n next bytes l (kids_cut ts n next bytes k l.1 name cut)
  inner_cut (more (node kind.Element m v ks) ts) n next bytes k l name cut =
      element_kid m v ks ts n next bytes l (λ us b c. inner_cut ks m us b l.0.1 l.0.2 l.0.0.0 c) (kids_cut ts n next bytes k l.1 name cut)
  inner_cut (more (node kind.Document m v ks) ts) n next bytes k l name cut = absurd k

-- a kid of the document, its line feed, and the other kids
line_shape : (ts : List Token) (first others : List ℕ) → Cut ts (first ++ 10 ∷ others) → Cut ts ((first ++ 10 ∷ []) ++ others)
line_shape ts first others cut = subst (λ z. Cut ts z) (sym (append_assoc first (10 ∷ []) others)) cut

feed_cut : (ts : List Token) (bytes : List ℕ) → Cut ts bytes → Cut (Character 10 ∷ ts) (10 ∷ bytes)
unfolding is_char
feed_cut ts bytes cut =
    subst (λ z. Cut (Character 10 ∷ ts) (z ++ bytes)) (encode_ascii 10 (omega arith))
    (cut_more (Character 10) ts (encode_utf8 10) bytes (character_written 10 refl (λ e. absurd (omega arith)) (λ e. absurd (omega arith))) cut)

lines_cut : (ts : Trees) (rooted : Bool) → AreDocumentKids rooted ts → AreLawfulTrees ts → Cut (line_tokens ts) (lines_of ts)
lines_cut none rooted k l = refl
lines_cut (more (node kind.Element n v ks) ts) rooted k l =
    let below = feed_cut (line_tokens ts) (lines_of ts) (lines_cut ts true k.1 l.1) in
    line_shape (tree_tokens (node kind.Element n v ks) (Character 10 ∷ line_tokens ts)) (spelling (node kind.Element n v ks)) (lines_of ts)
    (element_cut n v ks (Character 10 ∷ line_tokens ts) (10 ∷ lines_of ts) l.0
    (λ c. inner_cut ks n (Character 10 ∷ line_tokens ts) (10 ∷ lines_of ts) l.0.1 l.0.2 l.0.0.0 c) below)
lines_cut (more (node kind.Comment n v ks) ts) rooted k l =
    line_shape (Comment v ∷ Character 10 ∷ line_tokens ts) (comment_text v) (lines_of ts)
    (cut_more (Comment v) (Character 10 ∷ line_tokens ts) (comment_text v) (10 ∷ lines_of ts) (comment_written v l.0.0.1) (feed_cut (line_tokens ts) (lines_of ts) (lines_cut ts rooted k l.1)))
lines_cut (more (node kind.Instruction n v ks) ts) rooted k l =
    line_shape (Instruction n v ∷ Character 10 ∷ line_tokens ts) (instruction_text n v) (lines_of ts)
    (cut_more (Instruction n v) (Character 10 ∷ line_tokens ts) (instruction_text n v) (10 ∷ lines_of ts) (instruction_written n v l.0.0.0 l.0.0.1)
    (feed_cut (line_tokens ts) (lines_of ts) (lines_cut ts rooted k l.1)))
lines_cut (more (node kind.Document n v ks) ts) rooted k l = absurd k
lines_cut (more (node kind.Attribute n v ks) ts) rooted k l = absurd k
lines_cut (more (node kind.Text n v ks) ts) rooted k l = absurd k

-- the saved bytes of a lawful document spell it, with neighbouring texts joined
pub saved-is_spelled : (t : Tree) → IsDocument t → Spells (saved_bytes t) (joined t)
saved-is_spelled (node kind.Document n v ks) d = record {
  tokens = line_tokens ks;
  cut = subst (λ z. Cut (line_tokens ks) z) (sym (no_return_stays (lines_of ks) (saved_no_return ks d.lawful.2))) (lines_cut ks false d.lawful.1 d.lawful.2);
  document = saved-is_document (node kind.Document n v ks) d;
}
saved-is_spelled (node kind.Element n v ks) d = let bad = d.is_document in cc
saved-is_spelled (node kind.Attribute n v ks) d = let bad = d.is_document in cc
saved-is_spelled (node kind.Text n v ks) d = let bad = d.is_document in cc
saved-is_spelled (node kind.Comment n v ks) d = let bad = d.is_document in cc
saved-is_spelled (node kind.Instruction n v ks) d = let bad = d.is_document in cc
