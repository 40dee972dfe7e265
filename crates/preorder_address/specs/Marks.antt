-- Marks of the start, from which a search may begin.
use Rattle.std.specs.Prelude.{◌≡◌, ℕ, ◌+◌, ◌-◌, ◌<◌, List, [], ◌∷◌, ◌++◌, All, Option, Some, IfSome, option_map, length, slice_get, sum_by, take}
use Rattle.plain_tree.specs.declared.kind.Kind.{Kind}
use Rattle.rule_arena.specs.Terms.{Node, kids_of}
use Rattle.slt_grammar.specs.Grammars.{value_at}
use Rattle.slt_grammar.specs.Keyed.{KeyedRule, key_at, nodes_at, rules_of}
use Rattle.slt_grammar.specs.Segments.{node_tour}
use Rattle.slt_grammar.specs.Tours.{Stop, tour}
use Rattle.slt_grammar.specs.TourWalks.{StandsBefore}
use Rattle.slt_grammar.specs.declared.level.Level.{Level}
use Rattle.slt_grammar.specs.declared.tour_walk.TourWalk.{TourWalk}
use Rattle.segment_counts.specs.Counting.{weight_by}
use Rattle.segment_counts.specs.Weights.{weigh}
use Rattle.segment_counts.specs.declared.counts.Measure.{Measure}
use Rattle.segment_counts.specs.declared.counts.Weights.{Weights}
use Rattle.preorder_address.specs.Routes.{stop_weight}
use Rattle.preorder_address.specs.declared.marks.Mark.{Mark}

-- the stops that a rule's tour passes before it meets the node at a place
abbrev pub passed_to : List KeyedRule → ℕ → ℕ → List (Stop Node)
passed_to G r p = tour kids_of ([] ∷ []) (take p (nodes_at G r))

-- such stops have these weights
abbrev pub Weigh : List (Kind × List ℕ) → List KeyedRule → List (Stop Node) → Weights → Type 0
Weigh names G ms weights = (m : Measure) → weight_by m weights ≡ sum_by (stop_weight (weigh names m) G) ms

-- the mark's key stands in the start, and the mark has the weights of what the start's tour passes before that node
pub record IsMark (names : List (Kind × List ℕ)) (G : List KeyedRule) (mark : Mark) : Type 0 where
  pub place : ℕ
  pub there : key_at G (length G - 1) place ≡ Some mark.key
  pub weights : Weigh names G (passed_to G (length G - 1) place) mark.passed

abbrev pub AreMarks : List (Kind × List ℕ) → List KeyedRule → List Mark → Type 0
AreMarks names G marks = All (IsMark names G) marks

-- the walk stands on a rule's tour, and what it passed has these weights
pub record HasPassed (names : List (Kind × List ℕ)) (G : List KeyedRule) (r : ℕ) (walk : TourWalk) (weights : Weights) : Type 0 where
  pub passed : List (Stop Node)
  pub left : List (Stop Node)
  pub split : node_tour G r ≡ passed ++ left
  pub stands : StandsBefore G r walk left
  pub weighs : Weigh names G passed weights

-- where a mark is told, it is that of the first level's node
abbrev pub MarksFirst : List (Kind × List ℕ) → List KeyedRule → List Level → Option Mark → Type 0
MarksFirst names G levels first = IfSome first (λ mark. IsMark names G mark × (option_map (λ l. l.key) (slice_get levels 0) ≡ Some mark.key))

-- where a mark is told, it is that of the node at this place of the start
abbrev pub MarksPlace : List (Kind × List ℕ) → List KeyedRule → ℕ → Option Mark → Type 0
MarksPlace names G place first = IfSome first (λ mark. IsMark names G mark × (key_at G (length G - 1) place ≡ Some mark.key))

-- the starts of G and H have the same nodes up to a place, and what these may call has the same value
pub record IsSameBefore (place : ℕ) (G H : List KeyedRule) : Type 0 where
  pub nodes : take place (nodes_at H (length H - 1)) ≡ take place (nodes_at G (length G - 1))
  pub values : (r : ℕ) → r + 1 < length G → value_at (rules_of H) r ≡ value_at (rules_of G) r
