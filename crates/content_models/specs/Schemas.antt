-- Which bytes spell which schema, and which schemas are large.
use Rattle.std.specs.Prelude.{◌≡◌, ◌⊎◌, ℕ, ◌<◌, List, [], ◌∷◌, map, length, Some}
use Rattle.content_models.specs.Lines.{Given, AreLines}
use Rattle.content_models.specs.Matching.{places}
use Rattle.content_models.specs.Models.{Model}

abbrev pub HasName : List ℕ → List Given → Type 0
HasName name [] = ⊥
HasName name (g ∷ gs) = (g.name ≡ name) ⊎ HasName name gs

-- no name has two models
abbrev pub HaveOneModel : List Given → Type 0
HaveOneModel [] = Unit {0}
HaveOneModel (g ∷ gs) = (HasName g.name gs → ⊥) × HaveOneModel gs

-- the lines of the bytes give these models
abbrev pub SpellsSchema : List ℕ → List Given → Type 0
SpellsSchema bytes gs = AreLines (Some bytes) gs × HaveOneModel gs

-- the names with their models
abbrev pub rules : List Given → List (List ℕ × Model)
rules = map (λ g. (g.name, g.model))

-- a model has more than 64 names, or parentheses nested more than 64 deep
abbrev pub HasLarge : List Given → Type 0
HasLarge [] = ⊥
HasLarge (g ∷ gs) = ((64 < places g.model) ⊎ (64 < g.depth)) ⊎ HasLarge gs

-- so, or there are more than 64 models
abbrev pub IsLarge : List Given → Type 0
IsLarge gs = (64 < length gs) ⊎ HasLarge gs
