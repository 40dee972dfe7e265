-- Attributes and values (XML 1.0, fifth edition, 2.3, 3.1 and 3.3.3).
use Rattle.std.specs.Prelude.{◌≡◌, ℕ, ◌==◌, Bool, true, false, not, ◌||◌, ◌&&◌, List, [], ◌∷◌, ◌++◌, codes, if◌then◌else◌}
use Rattle.std.specs.Str.{bytes_eq}
use Rattle.std.specs.Char.{encode_utf8}
use Rattle.std.specs.List.{list_all, flat_map, AllByRecursion}
use Rattle.plain_tree.specs.XmlNames.{are_chars, is_space, are_spaces, is_white, is_name}
use Rattle.xml_tokens.specs.Cutting.{is_other}
use Rattle.xml_tokens.specs.References.{IsReference}

-- the double quote and the single one
abbrev pub is_quote : ℕ → Bool
is_quote q = q == 34 || q == 39

-- in double or in single quotes
pub record IsQuoted (inner x : List ℕ) : Type 0 where
  pub quote : ℕ
  pub quoted : is_quote quote ≡ true
  pub closed : list_all (is_other quote) inner ≡ true
  pub whole : x ≡ quote ∷ (inner ++ quote ∷ [])

-- a part of a value: a byte, or a reference
pub data Piece : Type 0 where
  Plain : (c : ℕ) → Piece
  Referred : (c : ℕ) (x : List ℕ) → Piece

abbrev pub piece_text : Piece → List ℕ
piece_text (Plain c) = c ∷ []
piece_text (Referred c x) = x

-- what a byte gives: itself, or a space for white space (3.3.3)
abbrev pub kept : ℕ → ℕ
kept c = c

abbrev pub space_if_white : ℕ → ℕ
space_if_white c = if is_space c then 32 else c

-- what a part gives, where give says what a byte gives
abbrev pub piece_value : (ℕ → ℕ) → Piece → List ℕ
piece_value give (Plain c) = give c ∷ []
piece_value give (Referred c x) = encode_utf8 c

-- a byte but < and &, or a reference
abbrev pub IsPiece : Piece → Type 0
IsPiece (Plain c) = ((c == 60) ≡ false) × ((c == 38) ≡ false)
IsPiece (Referred c x) = IsReference c x

-- characters and references (AttValue, production 10, between its quotes), and the value that they give
pub record IsValue (give : ℕ → ℕ) (value inner : List ℕ) : Type 0 where
  pub text : are_chars inner ≡ true
  pub pieces : List Piece
  pub each : AllByRecursion IsPiece pieces
  pub whole : inner ≡ flat_map piece_text pieces
  pub gives : value ≡ flat_map (piece_value give) pieces

-- Eq (production 25)
pub record IsEq (x : List ℕ) : Type 0 where
  pub space : List ℕ
  pub after : List ℕ
  pub spaced : are_spaces space ≡ true
  pub spaced_after : are_spaces after ≡ true
  pub whole : x ≡ space ++ (codes "=" ++ after)

-- S and Attribute (production 41)
pub record IsAttribute (name value x : List ℕ) : Type 0 where
  pub space : List ℕ
  pub spaced : is_white space ≡ true
  pub named : is_name name ≡ true
  pub eq : List ℕ
  pub is_eq : IsEq eq
  pub inner : List ℕ
  pub is_value : IsValue space_if_white value inner
  pub quotes : List ℕ
  pub quoted : IsQuoted inner quotes
  pub whole : x ≡ space ++ (name ++ (eq ++ quotes))

abbrev pub AreAttributes : List (List ℕ × List ℕ) → List ℕ → Type 0
AreAttributes [] x = x ≡ []
AreAttributes ((n, v) ∷ attributes) x = (y rest : List ℕ) × IsAttribute n v y × AreAttributes attributes rest × (x ≡ y ++ rest)

abbrev pub has_name : List ℕ → List (List ℕ × List ℕ) → Bool
has_name name [] = false
has_name name ((n, v) ∷ attributes) = bytes_eq n name || has_name name attributes

-- no name stands twice (3.1, Unique Att Spec)
abbrev pub are_distinct : List (List ℕ × List ℕ) → Bool
are_distinct [] = true
are_distinct ((n, v) ∷ attributes) = not (has_name n attributes) && are_distinct attributes
