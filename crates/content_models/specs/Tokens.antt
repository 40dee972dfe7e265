-- The tokens of models, a function of their bytes.
use Rattle.std.specs.Prelude.{◌≡◌, ℕ, ◌==◌, ◌||◌, Bool, List, [], ◌∷◌, Option, Some, None, if◌then◌else◌}
use Rattle.plain_tree.specs.XmlNames.{is_name}
use Rattle.xml_tokens.specs.Cutting.{front, back}
use Rattle.xml_tokens.specs.NameBytes.{is_name_byte}
use Rattle.content_models.specs.Spelled.{Token, Word, Open, Close, Comma, Bar, Question, Star, Plus}

-- blanks stand between tokens, and at both ends of a line
abbrev pub is_blank : ℕ → Bool
is_blank c = c == 32 || c == 9 || c == 13

-- the longest Name at the front (XML 1.0, production 5), and what follows it. Each byte of a character beyond ASCII counts, since
-- such characters stand in names alone
unfoldable pub name_at : List ℕ → Option (List ℕ × List ℕ)
name_at bytes = if is_name (front is_name_byte bytes) then Some (front is_name_byte bytes, back is_name_byte bytes) else None

-- what follows an equals sign
abbrev pub behind_equals : List ℕ → Option (List ℕ)
behind_equals [] = None
behind_equals (c ∷ cs) = if c == 61 then Some cs else None

-- a token, and what follows it
abbrev pub Found : Type 0
Found = Option (Token × List ℕ)

abbrev pub sign_at : ℕ → List ℕ → Found
sign_at c cs =
    if c == 40 then Some (Open, cs)
    else (if c == 41 then Some (Close, cs)
    else (if c == 44 then Some (Comma, cs)
    else (if c == 124 then Some (Bar, cs)
    else (if c == 63 then Some (Question, cs)
    else (if c == 42 then Some (Star, cs)
    else (if c == 43 then Some (Plus, cs)
    else None))))))

abbrev pub word_at : Option (List ℕ × List ℕ) → Found
word_at None = None
word_at (Some p) = Some (Word p.0, p.1)

-- the token at the front
unfoldable pub token_at : List ℕ → Found
token_at [] = None
token_at (c ∷ cs) = if is_name_byte c then word_at (name_at (c ∷ cs)) else sign_at c cs

-- the bytes are these tokens, with any blanks between them
pub data AreTokens : List ℕ → List Token → Type 0 where
  at_end : (bytes : List ℕ) → back is_blank bytes ≡ [] → AreTokens bytes []
  then_token : (bytes rest : List ℕ) (t : Token) (ts : List Token) → token_at (back is_blank bytes) ≡ Some (t, rest) → AreTokens rest ts → AreTokens bytes (t ∷ ts)
