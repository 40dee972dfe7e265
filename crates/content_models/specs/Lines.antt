-- Which line gives which model to which name.
use Rattle.std.specs.Prelude.{◌≡◌, ℕ, true, List, [], ◌∷◌, ◌++◌, Option, Some, None}
use Rattle.plain_tree.specs.XmlNames.{are_chars}
use Rattle.xml_tokens.specs.Cutting.{front, back, is_other}
use Rattle.content_models.specs.Models.{Model}
use Rattle.content_models.specs.Nesting.{deepest}
use Rattle.content_models.specs.Spelled.{Token, Spells}
use Rattle.content_models.specs.Tokens.{AreTokens, behind_equals, is_blank, name_at}

-- the bytes spell the model, with parentheses nested so deep
pub record SpellsModel (bytes : List ℕ) (model : Model) (depth : ℕ) : Type 0 where
  pub tokens : List Token
  pub cut : AreTokens bytes tokens
  pub spelled : Spells tokens model
  pub deep : depth ≡ deepest tokens

-- a name, the model that a line gives to it, and how deep the model's parentheses are nested
pub record Given : Type 0 where
  pub name : List ℕ
  pub model : Model
  pub depth : ℕ

-- Name '=' model, behind the blanks at the front of a line
pub record Gives (rest : List ℕ) (g : Given) : Type 0 where
  pub behind : List ℕ
  pub right : List ℕ
  pub named : name_at rest ≡ Some (g.name, behind)
  pub equals : behind_equals (back is_blank behind) ≡ Some right
  pub spelled : SpellsModel right g.model g.depth

-- blanks alone, or a comment: behind '#' any characters but a line feed
abbrev pub IsComment : List ℕ → Type 0
IsComment [] = Unit {0}
IsComment (c ∷ cs) = (c ≡ 35) × (are_chars cs ≡ true)

-- what a line gives: nothing or one model
abbrev pub IsLine : List ℕ → List Given → Type 0
IsLine line [] = IsComment (back is_blank line)
IsLine line (g ∷ []) = Gives (back is_blank line) g
IsLine line (g ∷ h ∷ gs) = ⊥

-- what follows a line: behind its line feed another, unless it is the last
abbrev pub behind_feed : List ℕ → Option (List ℕ)
behind_feed [] = None
behind_feed (c ∷ cs) = Some cs

-- the lines from there on give these models
pub data AreLines : Option (List ℕ) → List Given → Type 0 where
  no_line : AreLines None []
  one_line : (bytes : List ℕ) (gs more : List Given) → IsLine (front (is_other 10) bytes) gs → AreLines (behind_feed (back (is_other 10) bytes)) more → AreLines (Some bytes) (gs ++ more)
