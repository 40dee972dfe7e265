-- What one descent to a node tells.
use Rattle.std.specs.Prelude.{◌≡◌, ℕ, ◌-◌, List, ◌∷◌, ◌++◌, Option, option_map, length, sum_by, slice_get}
use Rattle.plain_tree.specs.declared.kind.Kind.{Kind}
use Rattle.plain_tree.specs.Tree.{Tree, none, more}
use Rattle.rule_arena.specs.declared.label.Label.{Label}
use Rattle.rule_arena.specs.declared.label.Label.TheVariants.{Symbol}
use Rattle.slt_grammar.specs.Keyed.{KeyedRule, rules_of}
use Rattle.slt_grammar.specs.Segments.{preorder}
use Rattle.slt_grammar.specs.Tours.{stop}
use Rattle.slt_grammar.specs.declared.level.Level.{Level}
use Rattle.segment_counts.specs.Counting.{weight_by}
use Rattle.segment_counts.specs.Weights.{node_weight, weigh}
use Rattle.segment_counts.specs.declared.counts.Measure.{Measure}
use Rattle.segment_counts.specs.declared.counts.Weights.{Weights}
use Rattle.preorder_address.specs.Chains.{LeadsTo}
use Rattle.preorder_address.specs.Descents.{descent_to, levels_of}
use Rattle.preorder_address.specs.Routes.{stop_weight}
use Rattle.preorder_address.specs.Stops.{FallsAt}
use Rattle.preorder_address.specs.TreeNumbers.{placed}
use Rattle.preorder_address.specs.Numberings.{measure_of}
use Rattle.preorder_address.specs.declared.numbering.Numbering.{Numbering}
use Rattle.preorder_address.specs.declared.numbering.Numbering.TheVariants.{Nodes}
use Rattle.preorder_address.specs.declared.spot.Spot.{Spot}
use Rattle.preorder_address.specs.declared.spot.WeighedStop.{WeighedStop}

-- node n of the grammar's value is this symbol, such levels lead there, and what stands before it has these weights
pub record StandsAfter (names : List (Kind × List ℕ)) (G : List KeyedRule) (n : ℕ) (levels : List Level) (symbol : ℕ) (before : Weights) : Type 0 where
  pub located : levels ≡ levels_of G (descent_to Nodes (length G - 1) n)
  pub chain : LeadsTo G (length G - 1) levels (Symbol symbol)
  pub earlier : List Label
  pub later : List Label
  pub split : preorder (rules_of G) (length G - 1) ≡ earlier ++ Symbol symbol ∷ later
  pub number : sum_by node_weight earlier ≡ n
  pub weights : (m : Measure) → sum_by (weigh names m) earlier ≡ weight_by m before

-- this is the spot of node n
abbrev pub IsSpot : List (Kind × List ℕ) → List KeyedRule → ℕ → Spot → Type 0
IsSpot names G n s = StandsAfter names G n s.levels.items s.symbol s.before

-- the place of node n, counted with the bottoms
abbrev pub place_at : Tree → ℕ → Option ℕ
place_at t n = option_map (λ e. e.0) (slice_get (placed 0 (more t none)) n)

-- number n of a rule falls into the stop, and this is the weight of what its tour passes before
pub record FallsWeighed (names : List (Kind × List ℕ)) (G : List KeyedRule) (by : Numbering) (r n : ℕ) (found : WeighedStop) : Type 0 where
  pub kids : ℕ
  pub offset : ℕ
  pub falls : FallsAt (weigh names (measure_of by)) G r n found.walk (stop (record { key = found.walk.key; label = found.label; kids = kids }) found.walk.part) offset
  pub weights : (m : Measure) → weight_by m found.passed ≡ sum_by (stop_weight (weigh names m) G) falls.passed
