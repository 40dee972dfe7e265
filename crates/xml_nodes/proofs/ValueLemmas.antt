-- What the parts of an attribute's value give are characters.
use Rattle.std.proofs.Common.{◌≡◌, ◌≢◌, ℕ, ◌≤◌, ◌<◌, Bool, true, false, List, [], ◌∷◌, ◌++◌, refl, ap, sym, ◌∙◌, subst, ◌⊎◌, inl, inr, arith}
use Rattle.std.specs.Prelude.{if◌then◌else◌}
use Rattle.std.specs.List.{list_all, flat_map, AllByRecursion}
use Rattle.std.specs.Str.{chars}
use Rattle.std.proofs.lemmas.Bool.Decides.{nat_tests}
use Rattle.std.proofs.lemmas.Str.{encodes-chars, encode_ascii, chars-nil}
use Rattle.std.proofs.lemmas.List.Folds.{list_all-append}
use lib.Utf8.{encodes, encode}
use lib.Dec.{ltb}
use borrow.Author.Tests.{ltb-true, ltb-false}
use Rattle.xml_nodes.proofs.CharacterLemmas.{and_true, chars_text, chars_lawful, no_chars, more_chars, one_char, chars-encode}
use Rattle.xml_nodes.proofs.NameBytes.{is_high, high_high}
use Rattle.xml_tokens.proofs.Texts.{encode_bytes}
use Rattle.xml_nodes.proofs.ReferenceLemmas.{is_low, referred_is}
use Rattle.plain_tree.specs.XmlNames.{is_char, is_space}
use Rattle.plain_tree.specs.Lawful.{AreChars}
use Rattle.xml_tokens.specs.References.{IsReference}
use Rattle.xml_tokens.specs.Attributes.{Piece, Plain, Referred, piece_text, piece_value, space_if_white, IsPiece, IsValue}

-- a character is one byte, or some that are all 128 or more
pub record Encoded (c : ℕ) : Type 0 where
  pub first : ℕ
  pub others : List ℕ
  pub are : encode c ≡ first ∷ others
  pub high : list_all is_high others ≡ true
  pub same : ((first ≡ c) × (others ≡ []) × (c < 128)) ⊎ (is_high first ≡ true)

pub no_bytes : (c : ℕ) → is_char c ≡ true → encode c ≢ []
no_bytes c e f =
    let one : chars (encode c) ≡ c ∷ [] = chars-encode c e in
    let none : chars (encode c) ≡ [] = ap chars f ∙ chars-nil in
    cc

pub encoded : (c : ℕ) → is_char c ≡ true → Encoded c
encoded c e = by_size (ltb c 128) refl where
  by_bytes : (x : List ℕ) → encode c ≡ x → list_all is_high x ≡ true → Encoded c
  by_bytes [] f g = absurd (no_bytes c e f)
  by_bytes (b ∷ x) f g =
      let each = and_true (is_high b) (list_all is_high x) g in
      record { first = b; others = x; are = f; high = each.1; same = inr each.0 }

  by_size : (b : Bool) → ltb c 128 ≡ b → Encoded c
  by_size true s =
      let h = ltb-true c 128 s in
      record { first = c; others = []; are = encode_ascii c h; high = refl; same = inl (refl, refl, h) }
  by_size false s =
      let h : 128 ≤ c = ltb-false c 128 s in
      by_bytes (encode c) refl (encode_bytes is_high high_high c (λ k. absurd (omega arith)))

-- behind bytes below 128 characters go on
record Goes (rest : List ℕ) : Type 0 where
  cs : List ℕ
  are : list_all is_char cs ≡ true
  is : rest ≡ encodes cs

low_first : (a : ℕ) (rest cs : List ℕ) → is_low a ≡ true → list_all is_char cs ≡ true → a ∷ rest ≡ encodes cs → Goes rest
low_first a rest [] l e f = cc
low_first a rest (d ∷ ds) l e f =
    let both = and_true (is_char d) (list_all is_char ds) e in
    let n = encoded d both.0 in
    let whole : a ∷ rest ≡ n.first ∷ (n.others ++ encodes ds) = f ∙ ap (λ z. z ++ encodes ds) n.are in
    by_case n whole both.1 n.same where
      by_case : (n : Encoded d) → a ∷ rest ≡ n.first ∷ (n.others ++ encodes ds) → list_all is_char ds ≡ true
          → ((n.first ≡ d) × (n.others ≡ []) × (d < 128)) ⊎ (is_high n.first ≡ true) → Goes rest
      by_case n w k (inl same) =
          let tail : rest ≡ n.others ++ encodes ds = cc in
          record { cs = ds; are = k; is = tail ∙ ap (λ z. z ++ encodes ds) same.1 }
      by_case n w k (inr high) =
          let head : a ≡ n.first = cc in
          let bad : is_high a ≡ true = subst (λ z. is_high z ≡ true) (sym head) high in
          absurd (grind (arith, nat_tests))

low_goes : (x rest cs : List ℕ) → list_all is_low x ≡ true → list_all is_char cs ≡ true → x ++ rest ≡ encodes cs → Goes rest
low_goes [] rest cs l e f = record { cs = cs; are = e; is = f }
low_goes (a ∷ x) rest cs l e f =
    let both = and_true (is_low a) (list_all is_low x) l in
    let g = low_first a (x ++ rest) cs both.0 e f in
    low_goes x rest g.cs both.1 g.are g.is

reference_low : (c : ℕ) (x : List ℕ) → IsReference c x → list_all is_low x ≡ true
reference_low c x r =
    subst (λ z. list_all is_low z ≡ true) (sym r.whole)
    (list_all-append is_low r.inner (59 ∷ []) ∙ rw (referred_is r.inner c r.names).low refl)

-- parts whose bytes are the end of a character, and then characters
record Gives (ps : List Piece) (y : List ℕ) : Type 0 where
  value : List ℕ
  are : AreChars value
  is : flat_map (piece_value space_if_white) ps ≡ y ++ value

spaced_char : (c : ℕ) → is_char c ≡ true → is_char (space_if_white c) ≡ true
unfolding is_char
spaced_char c e = by_test (is_space c) where
  by_test : (b : Bool) → is_char (if b then 32 else c) ≡ true
  by_test true = refl
  by_test false = e

high_spaced : (c : ℕ) → is_high c ≡ true → space_if_white c ≡ c
high_spaced c e = grind (arith, nat_tests)

small_char : (c : ℕ) → is_char c ≡ true → c < 128 → AreChars (space_if_white c ∷ [])
small_char c e h =
    let small : space_if_white c < 128 = grind (arith, nat_tests) in
    subst AreChars (encode_ascii (space_if_white c) small) (one_char (space_if_white c) (spaced_char c e))

-- the first byte of a character, and then the rest of it and more
plain_first : (c d : ℕ) (ps : List Piece) → is_char d ≡ true → (n : Encoded d) → c ≡ n.first → Gives ps n.others → Gives (Plain c ∷ ps) []
plain_first c d ps e n is g = by_case n.same where
  by_case : ((n.first ≡ d) × (n.others ≡ []) × (d < 128)) ⊎ (is_high n.first ≡ true) → Gives (Plain c ∷ ps) []
  by_case (inl same) =
      let cd : c ≡ d = is ∙ same.0 in
      record {
        value = (space_if_white d ∷ []) ++ g.value;
        are = more_chars (space_if_white d ∷ []) g.value (small_char d e same.2) g.are;
        is = ap (λ z. space_if_white z ∷ flat_map (piece_value space_if_white) ps) cd ∙ ap (λ z. space_if_white d ∷ z) (g.is ∙ ap (λ z. z ++ g.value) same.1);
      }
  by_case (inr high) = record {
    value = encode d ++ g.value;
    are = more_chars (encode d) g.value (one_char d e) g.are;
    is = ap (λ z. space_if_white z ∷ flat_map (piece_value space_if_white) ps) is ∙ ap (λ z. z ∷ flat_map (piece_value space_if_white) ps) (high_spaced n.first high) ∙ ap (λ z. n.first ∷ z) g.is
        ∙ ap (λ z. z ++ g.value) (sym n.are);
  }

plain_inner : (c b : ℕ) (y : List ℕ) (ps : List Piece) → c ≡ b → is_high b ≡ true → Gives ps y → Gives (Plain c ∷ ps) (b ∷ y)
plain_inner c b y ps is high g = record {
  value = g.value;
  are = g.are;
  is = ap (λ z. space_if_white z ∷ flat_map (piece_value space_if_white) ps) is ∙ ap (λ z. z ∷ flat_map (piece_value space_if_white) ps) (high_spaced b high) ∙ ap (λ z. b ∷ z) g.is;
}

pieces_give : (ps : List Piece) (y cs : List ℕ) → AllByRecursion IsPiece ps → list_all is_high y ≡ true → list_all is_char cs ≡ true
    → flat_map piece_text ps ≡ y ++ encodes cs → Gives ps y
pieces_give [] [] cs all h e f = record { value = []; are = no_chars; is = refl }
pieces_give [] (b ∷ y) cs all h e f = cc
pieces_give (Plain c ∷ ps) [] [] all h e f = cc
pieces_give (Plain c ∷ ps) [] (d ∷ ds) all h e f =
    let both = and_true (is_char d) (list_all is_char ds) e in
    let n = encoded d both.0 in
    let whole : c ∷ flat_map piece_text ps ≡ n.first ∷ (n.others ++ encodes ds) = f ∙ ap (λ z. z ++ encodes ds) n.are in
    let head : c ≡ n.first = cc in
    let tail : flat_map piece_text ps ≡ n.others ++ encodes ds = cc in
    plain_first c d ps both.0 n head (pieces_give ps n.others ds all.1 n.high both.1 tail)
pieces_give (Plain c ∷ ps) (b ∷ y) cs all h e f =
    let both = and_true (is_high b) (list_all is_high y) h in
    let head : c ≡ b = cc in
    let tail : flat_map piece_text ps ≡ y ++ encodes cs = cc in
    plain_inner c b y ps head both.0 (pieces_give ps y cs all.1 both.1 e tail)
pieces_give (Referred c x ∷ ps) [] cs all h e f =
    let g = low_goes x (flat_map piece_text ps) cs (reference_low c x all.0) e f in
    let below = pieces_give ps [] g.cs all.1 refl g.are g.is in
    record {
      value = encode c ++ below.value;
      are = more_chars (encode c) below.value (one_char c (referred_is all.0.inner c all.0.names).is) below.are;
      is = ap (λ z. encode c ++ z) below.is;
    }
pieces_give (Referred c x ∷ ps) (b ∷ y) cs all h e f =
    let both = and_true (is_high b) (list_all is_high y) h in
    let whole : 38 ∷ ((all.0.inner ++ 59 ∷ []) ++ flat_map piece_text ps) ≡ b ∷ (y ++ encodes cs) = ap (λ z. z ++ flat_map piece_text ps) (sym all.0.whole) ∙ f in
    let head : 38 ≡ b = cc in
    let bad : is_high 38 ≡ true = subst (λ z. is_high z ≡ true) (sym head) both.0 in
    cc

pub value_chars : (value inner : List ℕ) → IsValue space_if_white value inner → AreChars value
value_chars value inner v =
    let g = pieces_give v.pieces [] (chars inner) v.each refl (chars_lawful inner v.text) (sym v.whole ∙ sym (encodes-chars inner (chars_text inner v.text))) in
    subst AreChars (sym (v.gives ∙ g.is)) g.are
