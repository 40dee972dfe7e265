-- What holds of all schemas.
use Rattle.std.specs.Prelude.{◌≡◌, ℕ, List, [], ◌∷◌, ◌++◌, Bool, true, false, Some}
use Rattle.plain_tree.specs.Tree.{Tree}
use Rattle.plain_tree.specs.XmlNames.{is_name}
use Rattle.xml_tokens.specs.NameBytes.{is_name_byte}
use Rattle.content_models.specs.Lines.{Given}
use Rattle.content_models.specs.Models.{Model}
use Rattle.content_models.specs.Schemas.{SpellsSchema}
use Rattle.content_models.specs.Tokens.{name_at}
use Rattle.content_models.specs.Wrong.{AreWrong}

-- bytes spell at most one schema
abbrev pub SpellsOne : Type 0
SpellsOne = (bytes : List ℕ) (gs hs : List Given) → SpellsSchema bytes gs → SpellsSchema bytes hs → gs ≡ hs

-- no byte that may stand in a name is the first
abbrev pub begins_name : List ℕ → Bool
begins_name [] = false
begins_name (c ∷ cs) = is_name_byte c

-- what is taken for a name at the front of bytes is a Name, and the longest
abbrev pub NamesAreNames : Type 0
NamesAreNames = (bytes name rest : List ℕ) → name_at bytes ≡ Some (name, rest) → (is_name name ≡ true) × (bytes ≡ name ++ rest) × (begins_name rest ≡ false)

-- nodes have one list of numbers of wrong elements
abbrev pub WrongOne : Type 0
WrongOne = (schema : List (List ℕ × Model)) (from : ℕ) (ts : List Tree) (ms ns : List ℕ) → AreWrong schema from ts ms → AreWrong schema from ts ns → ms ≡ ns
