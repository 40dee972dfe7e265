-- Attributes of one element have distinct names.
use Rattle.std.specs.Prelude.{◌≡◌, ◌≢◌, ◌<◌, ◌≤◌, ℕ, Bool, true, false, List, [], ◌∷◌, length, get_or, Option, Some, slice_get}
use Rattle.plain_tree.specs.declared.kind.Kind.{Kind}
use Rattle.plain_tree.specs.declared.kind.Kind.TheVariants.{Attribute}
use Rattle.rule_arena.specs.declared.label.Label.{Label}
use Rattle.grammar_file.specs.Marks.{marks}
use Rattle.grammar_file.specs.TextSymbols.{text_symbols, AreTextsOf}
use Rattle.grammar_file.specs.declared.attributes.Attributes.{Attributes}
use Rattle.grammar_file.specs.declared.text_lists.Mark.{Mark}
use Rattle.grammar_file.specs.declared.text_lists.Mark.TheVariants.{Valued, Bare}

abbrev pub is_attribute : Option (Kind × List ℕ) → Bool
is_attribute (Some (Attribute, name)) = true
is_attribute pair = false

module _ (names : List (Kind × List ℕ)) where
  -- the symbol is none of the attributes that come before another node does
  abbrev pub IsNewIn : ℕ → List Mark → Type 0
  IsNewIn f [] = Unit {0}
  IsNewIn f (Bare ∷ ms) = Unit {0}
  IsNewIn f (Valued g ∷ ms) = is_attribute (slice_get names g) ≡ true → (f ≢ g) × IsNewIn f ms

  -- attributes with no other node between them have distinct symbols
  abbrev pub AreUnlike : List Mark → Type 0
  AreUnlike [] = Unit {0}
  AreUnlike (Bare ∷ ms) = AreUnlike ms
  AreUnlike (Valued f ∷ ms) = (is_attribute (slice_get names f) ≡ true → IsNewIn f ms) × AreUnlike ms

-- the attribute came since another node did
abbrev pub HasCome : Attributes → ℕ → Type 0
HasCome a f = a.begin < get_or a.last.items f 0

-- attributes of so many names, behind so many texts
pub record AreBehind (a : Attributes) (names texts : ℕ) : Type 0 where
  pub count : length a.last.items ≡ names
  pub begin : a.begin ≤ texts
  pub each : (f : ℕ) → get_or a.last.items f 0 ≤ texts

-- the attributes that came don't come again before another node does, and those that come are unlike
pub record GoOn (names : List (Kind × List ℕ)) (a : Attributes) (ms : List Mark) : Type 0 where
  pub come : (f : ℕ) → HasCome a f → IsNewIn names f ms
  pub coming : AreUnlike names ms

-- one lawful text for each of the labels that has one, and no two attributes of an element are equal
pub record AreRightTexts (names : List (Kind × List ℕ)) (labels : List Label) (texts : List (List ℕ)) : Type 0 where
  pub fit : AreTextsOf names (text_symbols names labels) texts
  pub unlike : AreUnlike names (marks names labels)
