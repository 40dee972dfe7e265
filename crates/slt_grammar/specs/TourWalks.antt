-- Where a walk along the tour of a body stands.
use Rattle.std.specs.Prelude.{◌≡◌, ℕ, suc, ◌-◌, ◌<◌, ◌≤◌, List, [], ◌∷◌, ◌++◌, Some, get_or, slice_get, Bool, true, false}
use Rattle.rule_arena.specs.Terms.{Node, kids_of}
use Rattle.slt_grammar.specs.Keyed.{KeyedRule, nodes_at, key_at}
use Rattle.slt_grammar.specs.Tours.{Stop, stop, once_closed, behind, tour_from}
use Rattle.slt_grammar.specs.declared.tour_walk.TourWalk.{TourWalk}

-- the stops behind the node at a place of a rule
abbrev pub behind_node : List KeyedRule → ℕ → ℕ → List (Stop Node)
behind_node G r p = get_or (behind kids_of ([] ∷ []) (nodes_at G r)) p []

-- the tour of a rule from the node at a place on
abbrev pub rest_of : List KeyedRule → ℕ → ℕ → List (Stop Node)
rest_of G r p = tour_from kids_of ([] ∷ []) (nodes_at G r) p

-- the walk stands at the first of these stops of the rule, and the others are left
pub record StandsBefore (G : List KeyedRule) (r : ℕ) (walk : TourWalk) (left : List (Stop Node)) : Type 0 where
  pub place : ℕ
  pub last : ℕ
  pub node : Node
  pub there : slice_get (nodes_at G r) place ≡ Some node
  pub key : node.key ≡ walk.key
  pub within : walk.part ≤ node.kids
  pub last_there : key_at G r last ≡ Some walk.last
  pub are_left : left ≡ stop node walk.part ∷ (once_closed (node.kids - walk.part) (behind_node G r place) ++ rest_of G r (suc last))

-- the walk stands at the next stop, or there is none
abbrev pub StandsNext : Bool → List KeyedRule → ℕ → TourWalk → List (Stop Node) → Type 0
StandsNext true G r walk left = StandsBefore G r walk left
StandsNext false G r walk left = left ≡ []

-- a stop of the rule behind one of its nodes' children
pub record IsBehindChild (G : List KeyedRule) (r : ℕ) (m : Stop Node) : Type 0 where
  pub place : ℕ
  pub there : slice_get (nodes_at G r) place ≡ Some m.item
  pub later : 0 < m.part
  pub within : m.part ≤ m.item.kids

abbrev pub AreBehindChildren : List KeyedRule → ℕ → List (Stop Node) → Type 0
AreBehindChildren G r [] = Unit {0}
AreBehindChildren G r (m ∷ ms) = IsBehindChild G r m × AreBehindChildren G r ms

-- stops behind children were skipped, and the walk stands at the one that comes next, or there is none
pub record StandsBehindSkipped (found : Bool) (G : List KeyedRule) (r : ℕ) (walk : TourWalk) (left : List (Stop Node)) : Type 0 where
  pub skipped : List (Stop Node)
  pub rest : List (Stop Node)
  pub split : left ≡ skipped ++ rest
  pub are_behind : AreBehindChildren G r skipped
  pub stands : StandsNext found G r walk rest
