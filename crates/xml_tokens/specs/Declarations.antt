-- The declaration of a document, and its DOCTYPE without an internal subset (XML 1.0, fifth edition, 2.3, 2.8, 2.9, 4.2.2 and 4.3.3).
use Rattle.std.specs.Prelude.{◌≡◌, ℕ, ◌+◌, ◌==◌, Bool, true, false, ◌||◌, ◌&&◌, List, [], ◌∷◌, ◌++◌, ◌⊎◌, map, codes, if◌then◌else◌}
use Rattle.std.specs.Str.{bytes_eq}
use Rattle.std.specs.List.{list_all}
use Rattle.plain_tree.specs.XmlNames.{is_within, are_chars, are_spaces, is_white, is_name}
use Rattle.xml_tokens.specs.References.{are_digits}
use Rattle.xml_tokens.specs.Attributes.{IsQuoted, IsEq}

-- S, a word, Eq, and what passes the test in quotes
pub record IsItem (word : List ℕ) (test : List ℕ → Bool) (x : List ℕ) : Type 0 where
  pub space : List ℕ
  pub spaced : is_white space ≡ true
  pub eq : List ℕ
  pub is_eq : IsEq eq
  pub inner : List ℕ
  pub lawful : test inner ≡ true
  pub quotes : List ℕ
  pub quoted : IsQuoted inner quotes
  pub whole : x ≡ space ++ (word ++ (eq ++ quotes))

-- or nothing
abbrev pub Maybe : (List ℕ → Type 0) → List ℕ → Type 0
Maybe P x = (x ≡ []) ⊎ P x

-- VersionNum (production 26): 1. and digits
abbrev pub is_version : List ℕ → Bool
is_version (a ∷ b ∷ digits) = (a == 49) && (b == 46) && are_digits 10 digits
is_version _ = false

abbrev pub small : ℕ → ℕ
small c = if is_within 65 90 c then c + 32 else c

-- the encodings of the profile (of production 81) in any mixture of cases
abbrev pub is_encoding : List ℕ → Bool
is_encoding x = bytes_eq (map small x) (codes "utf-8") || bytes_eq (map small x) (codes "us-ascii") || bytes_eq (map small x) (codes "ascii")

-- the value of an SDDecl (production 32)
abbrev pub is_yes_or_no : List ℕ → Bool
is_yes_or_no x = bytes_eq x (codes "yes") || bytes_eq x (codes "no")

-- XMLDecl (production 23): VersionInfo (24), EncodingDecl (80) and SDDecl (32)
pub record IsDeclaration (x : List ℕ) : Type 0 where
  pub version : List ℕ
  pub encoding : List ℕ
  pub standalone : List ℕ
  pub space : List ℕ
  pub versioned : IsItem (codes "version") is_version version
  pub encoded : Maybe (IsItem (codes "encoding") is_encoding) encoding
  pub alone : Maybe (IsItem (codes "standalone") is_yes_or_no) standalone
  pub spaced : are_spaces space ≡ true
  pub whole : x ≡ codes "<?xml" ++ (version ++ (encoding ++ (standalone ++ (space ++ codes "?>"))))

-- PubidChar (production 13)
unfoldable pub is_public : ℕ → Bool
is_public c =
    c == 32 || c == 13 || c == 10 || is_within 97 122 c || is_within 65 90 c || is_within 48 57 c || c == 33 || is_within 35 37 c || is_within 39 47 c
    || c == 58 || c == 59 || c == 61 || c == 63 || c == 64 || c == 95

abbrev pub are_public : List ℕ → Bool
are_public inner = list_all is_public inner

-- S, and a literal that passes the test (SystemLiteral and PubidLiteral, productions 11 and 12)
pub record IsLiteral (test : List ℕ → Bool) (x : List ℕ) : Type 0 where
  pub space : List ℕ
  pub spaced : is_white space ≡ true
  pub inner : List ℕ
  pub lawful : test inner ≡ true
  pub quotes : List ℕ
  pub quoted : IsQuoted inner quotes
  pub whole : x ≡ space ++ quotes

-- ExternalID (production 75): SYSTEM or PUBLIC and its literals
abbrev pub IsNamed : List ℕ → Type 0
IsNamed x =
    ((system : List ℕ) × IsLiteral are_chars system × (x ≡ codes "SYSTEM" ++ system))
    ⊎ ((public system : List ℕ) × IsLiteral are_public public × IsLiteral are_chars system × (x ≡ codes "PUBLIC" ++ (public ++ system)))

-- S and ExternalID
pub record IsExternal (x : List ℕ) : Type 0 where
  pub space : List ℕ
  pub spaced : is_white space ≡ true
  pub named : List ℕ
  pub is_named : IsNamed named
  pub whole : x ≡ space ++ named

-- doctypedecl (production 28), without an internal subset
pub record IsDoctype (x : List ℕ) : Type 0 where
  pub start : List ℕ
  pub started : is_white start ≡ true
  pub name : List ℕ
  pub named : is_name name ≡ true
  pub external : List ℕ
  pub given : Maybe IsExternal external
  pub space : List ℕ
  pub spaced : are_spaces space ≡ true
  pub whole : x ≡ codes "<!DOCTYPE" ++ (start ++ (name ++ (external ++ (space ++ codes ">"))))
