-- Where a search for nodes stands.
use Rattle.std.specs.Prelude.{◌≡◌, ℕ, ◌<◌, ◌≤◌, ◌^◌, List, [], ◌∷◌, ◌++◌, Some, length, sum_by, vec_capacity}
use Rattle.plain_tree.specs.declared.kind.Kind.{Kind}
use Rattle.rule_arena.specs.declared.label.Label.{Label}
use Rattle.rule_arena.specs.declared.label.Label.TheVariants.{Symbol}
use Rattle.slt_grammar.specs.Grammars.{value}
use Rattle.slt_grammar.specs.Keyed.{KeyedRule, rules_of}
use Rattle.slt_grammar.specs.Segments.{listed}
use Rattle.segment_counts.specs.Counting.{weight_by}
use Rattle.segment_counts.specs.Weights.{node_weight, weigh}
use Rattle.segment_counts.specs.declared.counts.Measure.{Measure}
use Rattle.value_cursor.specs.Cursors.{left_at}
use Rattle.value_cursor.specs.Stops.{AreStops}
use Rattle.value_cursor.specs.declared.finder.Finder.{Finder}

-- the labels of the value from where it stands on
abbrev pub ahead_of : List KeyedRule → Finder → List Label
ahead_of G f = left_at G (Some f.here) f.calls.items

-- the search's stops are of these rules, there is room for a stop of each, and the labels of the value before those ahead have the
-- weights that it passed
pub record IsSearch (names : List (Kind × List ℕ)) (G : List KeyedRule) (f : Finder) : Type 0 where
  pub stops : AreStops G (length G) (f.calls.items ++ f.here ∷ [])
  pub room : length G ≤ vec_capacity f.calls
  pub before : List Label
  pub split : listed (value (rules_of G)) [] ≡ before ++ ahead_of G f
  pub weights : (m : Measure) → sum_by (weigh names m) before ≡ weight_by m f.passed

-- it stands at the node with this number: so many nodes were passed, and a symbol comes next; those ahead are counted in a word
pub record StandsAtNode (names : List (Kind × List ℕ)) (G : List KeyedRule) (number : ℕ) (f : Finder) : Type 0 where
  pub search : IsSearch names G f
  pub number_is : f.passed.nodes ≡ number
  pub symbol : ℕ
  pub after : List Label
  pub begins : ahead_of G f ≡ Symbol symbol ∷ after
  pub few : sum_by node_weight (ahead_of G f) < 2 ^ 64
