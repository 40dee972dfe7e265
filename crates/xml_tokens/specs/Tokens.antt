-- The tokens of a document, and which bytes spell each (XML 1.0, fifth edition). No token knows what follows it.
use Rattle.std.specs.Prelude.{◌≡◌, ℕ, List, [], ◌∷◌, ◌++◌, codes}
use Rattle.xml_tokens.specs.References.{IsReference}
use Rattle.xml_tokens.specs.Markup.{IsCharacter, IsStart, IsEnd, IsComment, IsSection, IsInstruction}
use Rattle.xml_tokens.specs.Declarations.{IsDeclaration, IsDoctype}

pub data Token : Type 0 where
  -- a character that stands for itself, of a text or of white space outside the root
  Character : (c : ℕ) → Token
  -- the character that a reference names
  Reference : (c : ℕ) → Token
  -- a CDATA section
  Section : (value : List ℕ) → Token
  -- a start tag, an empty-element tag and an end tag; an attribute is its name and its value
  Start : (name : List ℕ) (attributes : List (List ℕ × List ℕ)) → Token
  Empty : (name : List ℕ) (attributes : List (List ℕ × List ℕ)) → Token
  End : (name : List ℕ) → Token
  Comment : (value : List ℕ) → Token
  -- a processing instruction
  Instruction : (target value : List ℕ) → Token
  -- the XML declaration
  Declaration : Token
  -- a document type declaration
  Doctype : Token

-- the bytes spell the token, all of them
abbrev pub IsToken : Token → List ℕ → Type 0
IsToken (Character c) x = IsCharacter c x
IsToken (Reference c) x = IsReference c x
IsToken (Section v) x = IsSection v x
IsToken (Start n attributes) x = IsStart n attributes (codes ">") x
IsToken (Empty n attributes) x = IsStart n attributes (codes "/>") x
IsToken (End n) x = IsEnd n x
IsToken (Comment v) x = IsComment v x
IsToken (Instruction n v) x = IsInstruction n v x
IsToken Declaration x = IsDeclaration x
IsToken Doctype x = IsDoctype x

-- the tokens stand one after the other at the front of the bytes, and after follows
abbrev pub AreTokens : List Token → List ℕ → List ℕ → Type 0
AreTokens [] bytes after = bytes ≡ after
AreTokens (t ∷ ts) bytes after = (x mid : List ℕ) × IsToken t x × (bytes ≡ x ++ mid) × AreTokens ts mid after
