-- The tokens of the saved bytes of a lawful document are that document, with neighbouring texts joined.
use Rattle.std.proofs.Common.{◌≡◌, ℕ, Bool, true, false, List, [], ◌∷◌, ◌++◌, refl, ap, sym, ◌∙◌, subst, inl, inr, append_assoc}
use Rattle.std.specs.Prelude.{◌==◌, ◌||◌, not, map, if◌then◌else◌}
use Rattle.std.specs.Char.{encode_utf8}
use Rattle.std.specs.List.{list_all, flat_map}
use Rattle.std.specs.Str.{IsUtf8, chars}
use Rattle.std.proofs.lemmas.Str.{encodes-chars}
use Rattle.std.proofs.lemmas.List.Folds.{list_all-append}
use Rattle.std.proofs.lemmas.Grind.{flat_map-append}
use lib.Utf8.{encodes, encode}
use Rattle.plain_tree.specs.declared.kind.Kind.TheVariants as kind
use Rattle.plain_tree.specs.Tree.{Tree, node, Trees, none, more}
use Rattle.xml_nodes.proofs.CharacterLemmas.{chars_text, and_true}
use Rattle.xml_nodes.proofs.Made.{with_text_kid, content_made}
use Rattle.xml_tokens.specs.Tokens.{Token, Character, Reference, Section, Start, Empty, End, Comment, Instruction, Declaration, Doctype}
use Rattle.xml_nodes.specs.Content.{is_text_piece, given, HasNoSectionEnd, attributes_among, AreAllAttributes, IsMarkup, AreBehindRun, IsContent, Part, Space, Kid, kids_of, AreParts, AreDocument}
use Rattle.plain_tree.specs.Lawful.{AreElementKids, AreDocumentKids, IsLawfulTree, AreLawfulTrees, IsDocument}
use Rattle.plain_tree.specs.Joined.{front_text, behind_text, join_front, joined, joined_all}
use Rattle.xml_nodes.specs.SavedTokens.{text_token, text_tokens, has_content, tree_tokens, all_tokens, line_tokens, saved_tokens}

-- a piece that isn't a >
abbrev is_free : Token → Bool
is_free (Character c) = not (c == 62)
is_free (Reference c) = true
is_free (Section v) = true
is_free (Start n attrs) = true
is_free (Empty n attrs) = true
is_free (End n) = true
is_free (Comment v) = true
is_free (Instruction n v) = true
is_free Declaration = true
is_free Doctype = true

free_no_end : (ps : List Token) → list_all is_free ps ≡ true → HasNoSectionEnd ps
free_no_end [] e = tt
free_no_end (p ∷ ps) e = (λ rest f. third rest (subst (λ z. list_all is_free z ≡ true) f e), free_no_end ps (and_true (is_free p) (list_all is_free ps) e).1) where
  third : (rest : List Token) → list_all is_free (Character 93 ∷ Character 93 ∷ Character 62 ∷ rest) ≡ true → ⊥
  third rest g = cc

-- the pieces of a text
token_piece : (c : ℕ) → is_text_piece (text_token c) ≡ true
token_piece c = by_test (c == 38 || c == 60 || c == 62 || c == 13) where
  by_test : (b : Bool) → is_text_piece (if b then Reference c else Character c) ≡ true
  by_test true = refl
  by_test false = refl

token_given : (c : ℕ) → given (text_token c) ≡ encode_utf8 c
token_given c = by_test (c == 38 || c == 60 || c == 62 || c == 13) where
  by_test : (b : Bool) → given (if b then Reference c else Character c) ≡ encode_utf8 c
  by_test true = refl
  by_test false = refl

token_free : (c : ℕ) → is_free (text_token c) ≡ true
token_free c = by_test (c == 38) (c == 60) (c == 62) (c == 13) refl where
  by_test : (a b d e : Bool) → (c == 62) ≡ d → is_free (if a || b || d || e then Reference c else Character c) ≡ true
  by_test true b d e f = refl
  by_test false true d e f = refl
  by_test false false true e f = refl
  by_test false false false true f = refl
  by_test false false false false f = rw f refl

tokens_pieces : (cs : List ℕ) → list_all is_text_piece (map text_token cs) ≡ true
tokens_pieces [] = refl
tokens_pieces (c ∷ cs) = rw (token_piece c, tokens_pieces cs) refl

tokens_free : (cs : List ℕ) → list_all is_free (map text_token cs) ≡ true
tokens_free [] = refl
tokens_free (c ∷ cs) = rw (token_free c, tokens_free cs) refl

tokens_given : (cs : List ℕ) → flat_map given (map text_token cs) ≡ encodes cs
tokens_given [] = refl
tokens_given (c ∷ cs) = ap (λ z. z ++ flat_map given (map text_token cs)) (token_given c) ∙ ap (λ z. encode c ++ z) (tokens_given cs)

text_given : (v : List ℕ) → IsUtf8 v → flat_map given (text_tokens v) ≡ v
text_given v u = tokens_given (chars v) ∙ encodes-chars v u

-- joined trees: a text at the front, and what is behind it
record Written (joined_trees : Trees) (tokens after : List Token) : Type 0 where
  pieces : List Token
  mid : List Token
  each : list_all is_text_piece pieces ≡ true
  free : list_all is_free pieces ≡ true
  whole : tokens ≡ pieces ++ mid
  gives : front_text joined_trees ≡ flat_map given pieces
  items : AreBehindRun (behind_text joined_trees) mid after

-- the joined kids are again a text, where there is any, and the others
front_back : (ts : Trees) → AreLawfulTrees ts → with_text_kid (front_text (joined_all ts)) (behind_text (joined_all ts)) ≡ joined_all ts
front_back none l = refl
front_back (more (node kind.Text n [] ks) ts) l = absurd (l.0.0.1.1 refl)
front_back (more (node kind.Text n (c ∷ v) ks) ts) l =
    let e = l.0.0.0 in
    let f : ks ≡ none = l.0.1 in
    rw (e, f) refl
front_back (more (node kind.Document n v ks) ts) l = refl
front_back (more (node kind.Element n v ks) ts) l = refl
front_back (more (node kind.Attribute n v ks) ts) l = refl
front_back (more (node kind.Comment n v ks) ts) l = refl
front_back (more (node kind.Instruction n v ks) ts) l = refl

written_content : (ts : Trees) (in_tag : Bool) (tokens after : List Token) → AreLawfulTrees ts → Written (joined_all ts) tokens after → IsContent (joined_all ts) in_tag tokens after
written_content ts in_tag tokens after l w =
    subst (λ z. IsContent z in_tag tokens after) (front_back ts l)
    (content_made (front_text (joined_all ts)) (behind_text (joined_all ts)) in_tag tokens w.mid after
    (record { pieces = w.pieces; each = w.each; whole = w.whole; gives = w.gives; lawful = free_no_end w.pieces w.free }) w.items)

none_written : (after : List Token) → Written none after after
none_written after = record { pieces = []; mid = after; each = refl; free = refl; whole = refl; gives = refl; items = refl }

text_written : (n v : List ℕ) (ks js : Trees) (tokens after : List Token) → IsUtf8 v → Written js tokens after
    → Written (join_front (node kind.Text n v ks) js) (text_tokens v ++ tokens) after
text_written n v ks js tokens after u w = record {
  pieces = text_tokens v ++ w.pieces;
  mid = w.mid;
  each = list_all-append is_text_piece (text_tokens v) w.pieces ∙ rw (tokens_pieces (chars v), w.each) refl;
  free = list_all-append is_free (text_tokens v) w.pieces ∙ rw (tokens_free (chars v), w.free) refl;
  whole = ap (λ z. text_tokens v ++ z) w.whole ∙ sym (append_assoc (text_tokens v) w.pieces w.mid);
  gives = sym (flat_map-append given (text_tokens v) w.pieces ∙ ap (λ z. z ++ flat_map given w.pieces) (text_given v u) ∙ ap (λ z. v ++ z) (sym w.gives));
  items = w.items;
}

-- an item in front of joined trees
item_front : (t : Tree) (js : Trees) (tokens mid after : List Token) → IsMarkup t tokens mid → IsContent js false mid after → Written (join_front t js) tokens after
item_front (node kind.Element n v ks) js tokens mid after i c = record { pieces = []; mid = tokens; each = refl; free = refl; whole = refl; gives = refl; items = (mid, i, c) }
item_front (node kind.Comment n v ks) js tokens mid after i c = record { pieces = []; mid = tokens; each = refl; free = refl; whole = refl; gives = refl; items = (mid, i, c) }
item_front (node kind.Instruction n v ks) js tokens mid after i c = record { pieces = []; mid = tokens; each = refl; free = refl; whole = refl; gives = refl; items = (mid, i, c) }
item_front (node kind.Document n v ks) js tokens mid after i c = absurd i
item_front (node kind.Attribute n v ks) js tokens mid after i c = absurd i
item_front (node kind.Text n v ks) js tokens mid after i c = absurd i

joined_attributes : (ts : Trees) → attributes_among (joined_all ts) ≡ attributes_among ts
joined_attributes none = refl
joined_attributes (more (node kind.Attribute n v ks) ts) = ap (λ z. (n, v) ∷ z) (joined_attributes ts)
joined_attributes (more (node kind.Text n v ks) ts) = refl
joined_attributes (more (node kind.Document n v ks) ts) = refl
joined_attributes (more (node kind.Element n v ks) ts) = refl
joined_attributes (more (node kind.Comment n v ks) ts) = refl
joined_attributes (more (node kind.Instruction n v ks) ts) = refl

only_attributes : (in_tag : Bool) (ts : Trees) → AreElementKids in_tag ts → AreLawfulTrees ts → has_content ts ≡ false → AreAllAttributes (joined_all ts)
only_attributes in_tag none k l e = tt
only_attributes in_tag (more (node kind.Attribute n v ks) ts) k l e =
    let f : ks ≡ none = l.0.1 in
    (refl, ap joined_all f, only_attributes true ts k.2 l.1 e)
only_attributes in_tag (more (node kind.Text n v ks) ts) k l e = cc
only_attributes in_tag (more (node kind.Document n v ks) ts) k l e = cc
only_attributes in_tag (more (node kind.Element n v ks) ts) k l e = cc
only_attributes in_tag (more (node kind.Comment n v ks) ts) k l e = cc
only_attributes in_tag (more (node kind.Instruction n v ks) ts) k l e = cc

element_written : (n v : List ℕ) (ks : Trees) (next : List Token) → IsLawfulTree (node kind.Element n v ks)
    → IsContent (joined_all ks) true (all_tokens ks (End n ∷ next)) (End n ∷ next) → IsMarkup (joined (node kind.Element n v ks)) (tree_tokens (node kind.Element n v ks) next) next
element_written n v ks next l c = by_test (has_content ks) refl where
  by_test : (b : Bool) → has_content ks ≡ b → IsMarkup (joined (node kind.Element n v ks)) (tree_tokens (node kind.Element n v ks) next) next
  by_test true e = (
    l.0.1,
    inr (record {
      inner = all_tokens ks (End n ∷ next);
      start_tag = rw e (ap (λ z. Start n z ∷ all_tokens ks (End n ∷ next)) (sym (joined_attributes ks)));
      content = c;
    }),
  )
  by_test false e = (
    l.0.1,
    inl (record {
      no_content = only_attributes true ks l.1 l.2 e;
      tag = rw e (ap (λ z. Empty n z ∷ next) (sym (joined_attributes ks)));
    }),
  )

-- one kid more in front of a content
text_front : (n v : List ℕ) (ks ts : Trees) (next : List Token) → AreLawfulTrees (more (node kind.Text n v ks) ts) → Written (joined_all ts) (all_tokens ts next) next
    → Written (joined_all (more (node kind.Text n v ks) ts)) (all_tokens (more (node kind.Text n v ks) ts) next) next
text_front n v ks ts next l w = text_written n v (joined_all ks) (joined_all ts) (all_tokens ts next) next (chars_text v l.0.0.1.0) w

comment_front : (n v : List ℕ) (ks ts : Trees) (next : List Token) → AreLawfulTrees (more (node kind.Comment n v ks) ts) → Written (joined_all ts) (all_tokens ts next) next
    → Written (joined_all (more (node kind.Comment n v ks) ts)) (all_tokens (more (node kind.Comment n v ks) ts) next) next
comment_front n v ks ts next l w =
    item_front (node kind.Comment n v (joined_all ks)) (joined_all ts) (Comment v ∷ all_tokens ts next) (all_tokens ts next) next
    (l.0.0.0, ap joined_all l.0.1, refl) (written_content ts false (all_tokens ts next) next l.1 w)

instruction_front : (n v : List ℕ) (ks ts : Trees) (next : List Token) → AreLawfulTrees (more (node kind.Instruction n v ks) ts) → Written (joined_all ts) (all_tokens ts next) next
    → Written (joined_all (more (node kind.Instruction n v ks) ts)) (all_tokens (more (node kind.Instruction n v ks) ts) next) next
instruction_front n v ks ts next l w =
    item_front (node kind.Instruction n v (joined_all ks)) (joined_all ts) (Instruction n v ∷ all_tokens ts next) (all_tokens ts next) next
    (ap joined_all l.0.1, refl) (written_content ts false (all_tokens ts next) next l.1 w)

element_front : (n v : List ℕ) (ks ts : Trees) (next : List Token) → AreLawfulTrees (more (node kind.Element n v ks) ts)
    → ((rest : List Token) → IsContent (joined_all ks) true (all_tokens ks (End n ∷ rest)) (End n ∷ rest)) → Written (joined_all ts) (all_tokens ts next) next
    → Written (joined_all (more (node kind.Element n v ks) ts)) (all_tokens (more (node kind.Element n v ks) ts) next) next
element_front n v ks ts next l c w =
    item_front (node kind.Element n v (joined_all ks)) (joined_all ts) (tree_tokens (node kind.Element n v ks) (all_tokens ts next)) (all_tokens ts next) next
    (element_written n v ks (all_tokens ts next) l.0 (c (all_tokens ts next))) (written_content ts false (all_tokens ts next) next l.1 w)

mutual
  written : (ts : Trees) (next : List Token) → AreElementKids false ts → AreLawfulTrees ts → Written (joined_all ts) (all_tokens ts next) next
  written none next k l = none_written next
  written (more (node kind.Text n v ks) ts) next k l = text_front n v ks ts next l (written ts next k l.1)
  written (more (node kind.Comment n v ks) ts) next k l = comment_front n v ks ts next l (written ts next k l.1)
  written (more (node kind.Instruction n v ks) ts) next k l = instruction_front n v ks ts next l (written ts next k l.1)
  written (more (node kind.Element n v ks) ts) next k l =
      element_front n v ks ts next l (λ rest. content_written ks true (End n ∷ rest) l.0.1 l.0.2) (written ts next k l.1)
  written (more (node kind.Document n v ks) ts) next k l = absurd k
  written (more (node kind.Attribute n v ks) ts) next k l = let bad = k.0 in cc

  content_written : (ts : Trees) (in_tag : Bool) (next : List Token) → AreElementKids in_tag ts → AreLawfulTrees ts → IsContent (joined_all ts) in_tag (all_tokens ts next) next
  content_written none in_tag next k l = written_content none in_tag next next tt (none_written next)
  content_written (more (node kind.Attribute n v ks) ts) true next k l = (ap joined_all l.0.1, content_written ts true next k.2 l.1)
  content_written (more (node kind.Attribute n v ks) ts) false next k l = let bad = k.0 in cc
  content_written (more (node kind.Text n v ks) ts) in_tag next k l =
      written_content (more (node kind.Text n v ks) ts) in_tag _ next l (text_front n v ks ts next l (written ts next k l.1))
  content_written (more (node kind.Comment n v ks) ts) in_tag next k l =
      written_content (more (node kind.Comment n v ks) ts) in_tag _ next l (comment_front n v ks ts next l (written ts next k l.1))
  content_written (more (node kind.Instruction n v ks) ts) in_tag next k l =
      written_content (more (node kind.Instruction n v ks) ts) in_tag _ next l (instruction_front n v ks ts next l (written ts next k l.1))
  content_written (more (node kind.Element n v ks) ts) in_tag next k l =
      written_content (more (node kind.Element n v ks) ts) in_tag _ next l
      (element_front n v ks ts next l (λ rest. content_written ks true (End n ∷ rest) l.0.1 l.0.2) (written ts next k l.1))
  content_written (more (node kind.Document n v ks) ts) in_tag next k l = absurd k

-- the kids of the document, each followed by a line feed
record Lines (rooted : Bool) (ts : Trees) : Type 0 where
  parts : List Part
  are : AreParts rooted rooted parts (line_tokens ts)
  kids : kids_of parts ≡ joined_all ts

lines : (ts : Trees) (rooted : Bool) → AreDocumentKids rooted ts → AreLawfulTrees ts → Lines rooted ts
lines none rooted k l = record { parts = []; are = (k, refl); kids = refl }
lines (more (node kind.Element n v ks) ts) rooted k l =
    let next = Character 10 ∷ line_tokens ts in
    let below = lines ts true k.1 l.1 in
    record {
      parts = Kid (node kind.Element n v (joined_all ks)) ∷ Space 10 ∷ below.parts;
      are = (next, k.0, element_written n v ks next l.0 (content_written ks true (End n ∷ next) l.0.1 l.0.2), (line_tokens ts, refl, refl, below.are));
      kids = ap (λ z. more (node kind.Element n v (joined_all ks)) z) below.kids;
    }
lines (more (node kind.Comment n v ks) ts) rooted k l =
    let next = Character 10 ∷ line_tokens ts in
    let below = lines ts rooted k l.1 in
    record {
      parts = Kid (node kind.Comment n v (joined_all ks)) ∷ Space 10 ∷ below.parts;
      are = (next, (l.0.0.0, ap joined_all l.0.1, refl), (line_tokens ts, refl, refl, below.are));
      kids = ap (λ z. more (node kind.Comment n v (joined_all ks)) z) below.kids;
    }
lines (more (node kind.Instruction n v ks) ts) rooted k l =
    let next = Character 10 ∷ line_tokens ts in
    let below = lines ts rooted k l.1 in
    record {
      parts = Kid (node kind.Instruction n v (joined_all ks)) ∷ Space 10 ∷ below.parts;
      are = (next, (ap joined_all l.0.1, refl), (line_tokens ts, refl, refl, below.are));
      kids = ap (λ z. more (node kind.Instruction n v (joined_all ks)) z) below.kids;
    }
lines (more (node kind.Document n v ks) ts) rooted k l = absurd k
lines (more (node kind.Attribute n v ks) ts) rooted k l = absurd k
lines (more (node kind.Text n v ks) ts) rooted k l = absurd k

pub saved-is_document : (tree : Tree) → IsDocument tree → AreDocument (saved_tokens tree) (joined tree)
saved-is_document (node kind.Document n v ks) d =
    let l = d.lawful in
    let parts = lines ks false l.1 l.2 in
    record {
      marked = line_tokens ks;
      declared = line_tokens ks;
      mark = inr refl;
      declaration = inr refl;
      parts = parts.parts;
      are_parts = parts.are;
      is = rw (l.0.0, l.0.1) (ap (λ z. node kind.Document [] [] z) (sym parts.kids));
    }
saved-is_document (node kind.Element n v ks) d = let bad = d.is_document in cc
saved-is_document (node kind.Attribute n v ks) d = let bad = d.is_document in cc
saved-is_document (node kind.Text n v ks) d = let bad = d.is_document in cc
saved-is_document (node kind.Comment n v ks) d = let bad = d.is_document in cc
saved-is_document (node kind.Instruction n v ks) d = let bad = d.is_document in cc
