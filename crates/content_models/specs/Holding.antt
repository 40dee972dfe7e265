-- What a reader of lines holds.
use Rattle.std.specs.Prelude.{◌≡◌, ℕ, Bool, true, false, List, ◌++◌, map, Option, length, nat_le, ◌||◌}
use Rattle.plain_tree.specs.declared.kind.Kind.{Kind}
use Rattle.plain_tree.specs.declared.kind.Kind.TheVariants.{Element}
use Rattle.xml_tokens.specs.Cutting.{front, back, is_other}
use Rattle.content_models.specs.declared.reading.Reader.{Reader}
use Rattle.content_models.specs.declared.line_reading.Line.{Line}
use Rattle.content_models.specs.Givens.{is_large}
use Rattle.content_models.specs.Lines.{Given, IsLine, behind_feed}
use Rattle.content_models.specs.Rules.{rule_of}
use Rattle.content_models.specs.Schemas.{HaveOneModel, IsLarge, rules}

abbrev pub names_of : List Given → List (Kind × List ℕ)
names_of = map (λ g. (Element, g.name))

-- a limit is passed with this line
abbrev pub is_past : Reader → Line → Bool
is_past r l = nat_le 64 (length r.kept.items) || is_large l

-- it is told whether the models are large, and where they aren't they are kept
pub record Keeps (r : Reader) (gs : List Given) : Type 0 where
  pub large : r.large ≡ true → IsLarge gs
  pub small : r.large ≡ false → IsLarge gs → ⊥
  pub kept : r.large ≡ false → map rule_of r.kept.items ≡ rules gs

-- these models were given
pub record Holds (r : Reader) (gs : List Given) : Type 0 where
  pub names : r.seen ≡ names_of gs
  pub keeps : Keeps r gs

-- the first line was taken
pub record TakesLine (lines : List ℕ) (old new : Reader) (next : Option (List ℕ)) : Type 0 where
  pub given : List Given
  pub line : IsLine (front (is_other 10) lines) given
  pub rest : next ≡ behind_feed (back (is_other 10) lines)
  pub holds : (gs : List Given) → Holds old gs → Holds new (gs ++ given)
  pub one : (gs : List Given) → Holds old gs → HaveOneModel gs → HaveOneModel (gs ++ given)

-- the first line gives nothing, or a second model to a name
abbrev pub Refused : List ℕ → Reader → Type 0
Refused lines r = (gs given more : List Given) → Holds r gs → IsLine (front (is_other 10) lines) given → HaveOneModel (gs ++ (given ++ more)) → ⊥
