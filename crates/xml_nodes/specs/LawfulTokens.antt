-- What a token of bytes without #xD holds, and how many bytes spell it at least.
use Rattle.std.specs.Prelude.{◌≡◌, ◌≢◌, ℕ, ◌+◌, true, List, [], ◌∷◌, length}
use Rattle.std.specs.List.{AllByRecursion}
use Rattle.plain_tree.specs.XmlNames.{is_char}
use Rattle.plain_tree.specs.Lawful.{AreChars, IsName, IsTarget, IsCommentValue, IsInstructionValue}
use Rattle.xml_tokens.specs.Tokens.{Token, Character, Reference, Section, Start, Empty, End, Comment, Instruction, Declaration, Doctype}

-- no name stands twice
abbrev pub HaveDistinctNames : List (List ℕ × List ℕ) → Type 0
HaveDistinctNames [] = Unit {0}
HaveDistinctNames (a ∷ attributes) = AllByRecursion (λ b. a.0 ≢ b.0) attributes × HaveDistinctNames attributes

-- what the attributes of a tag fulfil
pub record AreLawfulAttributes (attributes : List (List ℕ × List ℕ)) : Type 0 where
  pub each : AllByRecursion (λ a. IsName a.0 × AreChars a.1) attributes
  pub distinct : HaveDistinctNames attributes

abbrev pub IsLawfulToken : Token → Type 0
IsLawfulToken (Character c) = is_char c ≡ true
IsLawfulToken (Reference c) = is_char c ≡ true
IsLawfulToken (Section value) = AreChars value
IsLawfulToken (Start name attributes) = IsName name × AreLawfulAttributes attributes
IsLawfulToken (Empty name attributes) = IsName name × AreLawfulAttributes attributes
IsLawfulToken (End name) = IsName name
IsLawfulToken (Comment value) = IsCommentValue value
IsLawfulToken (Instruction name value) = IsTarget name × IsInstructionValue value
IsLawfulToken Declaration = Unit {0}
IsLawfulToken Doctype = Unit {0}

abbrev pub AreLawfulTokens : List Token → Type 0
AreLawfulTokens = AllByRecursion IsLawfulToken

-- as many bytes spell a token at least, an attribute of a tag one
abbrev pub least : Token → ℕ
least (Start name attributes) = 2 + length attributes
least (Empty name attributes) = 2 + length attributes
least (Comment value) = 2
least (Instruction name value) = 2
least Declaration = 0
least Doctype = 0
least t = 1

abbrev pub least_all : List Token → ℕ
least_all [] = 0
least_all (t ∷ ts) = least t + least_all ts
