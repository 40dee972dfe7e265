-- Places of the value, which are its labels in preorder, bottoms among them, and bodies that come around them.
use Rattle.std.specs.Prelude.{◌≡◌, ℕ, ◌-◌, ◌<◌, List, [], ◌∷◌, length, Some, sum_by}
use Rattle.rule_arena.specs.declared.key.Key.{Key}
use Rattle.rule_arena.specs.declared.label.Label.{Label}
use Rattle.slt_grammar.specs.Algebras.{meaning}
use Rattle.slt_grammar.specs.Bodies.{CallsBelow, IsTerm, params}
use Rattle.slt_grammar.specs.ChangedValues.{term_around}
use Rattle.slt_grammar.specs.Keyed.{KeyedRule, key_at, rules_of}
use Rattle.slt_grammar.specs.KeyedEdits.{label_at}
use Rattle.slt_grammar.specs.Segments.{preorder}
use Rattle.slt_grammar.specs.Terms.{Term, holes, substitute, term_algebra}
use Rattle.slt_grammar.specs.declared.level.Level.{Level}
use Rattle.slt_grammar.specs.declared.rules.Rule.{Rule}
use Rattle.linked_edits.specs.Endings.{EndsInParam}
use Rattle.segment_counts.specs.Weights.{all_weight}
use Rattle.path_isolation.specs.Chains.{IsOfValue}
use Rattle.path_isolation.specs.Isolations.{room_along}
use Rattle.preorder_address.specs.Descents.{descent_to, levels_of}
use Rattle.preorder_address.specs.declared.numbering.Numbering.TheVariants.{All}
use Rattle.tree_updates.specs.Differences.{DifferThere, hole_at}
use Rattle.tree_updates.specs.declared.place_spots.PlaceSpot.{PlaceSpot}

-- the value has so many places
abbrev pub places_in : List KeyedRule → ℕ
places_in G = sum_by all_weight (preorder (rules_of G) (length G - 1))

-- the levels to a place of the value
abbrev pub levels_to_place : List KeyedRule → ℕ → List Level
levels_to_place G place = levels_of G (descent_to All (length G - 1) place)

-- the value has the place, and these levels lead there
pub record LeadToPlace (G : List KeyedRule) (levels : List Level) (place : ℕ) : Type 0 where
  pub located : levels ≡ levels_to_place G place
  pub low : place < places_in G

-- the spot of a place of the value
abbrev pub IsPlaceSpot : List KeyedRule → ℕ → PlaceSpot → Type 0
IsPlaceSpot G place s = LeadToPlace G s.levels.items place

-- for how many nodes there has to be room where the label at a place is isolated
abbrev pub room_to_place : List KeyedRule → ℕ → ℕ
room_to_place G place = room_along G (levels_to_place G place)

-- The key stands in the start's body at this place of the value: it is a symbol or bottom, and as many labels stand before it as the place
-- says.
pub record IsPlaceIsolated (H : List KeyedRule) (place : ℕ) (key : Key) : Type 0 where
  pub position : ℕ
  pub there : key_at H (length H - 1) position ≡ Some key
  pub label : IsOfValue (label_at H (length H - 1) position)
  pub before : hole_at all_weight (term_around (rules_of H) position) ≡ place

-- the labels call no rule, and are one term, which has a parameter for its one hole at its end
pub record IsBodyOf (front : Term) (body : List Label) : Type 0 where
  pub plain : CallsBelow 0 body
  pub term : (ranks : List ℕ) → IsTerm ranks body
  pub linear : params body ≡ 1
  pub last : EndsInParam body
  pub means : (ranks : List ℕ) (rules : List (List Term → Term)) → meaning term_algebra ranks rules body (holes 0 1) ≡ front

-- what stands at the place of the first value stands in the hole of this term in the second
pub record ComesAround (G H : List Rule) (place : ℕ) (front : Term) : Type 0 where
  pub this : Term
  pub differ : DifferThere all_weight G H place this (substitute front (this ∷ []))
