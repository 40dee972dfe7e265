-- Levels that lead to a node by its number, and how much room isolating it wants.
use Rattle.std.specs.Prelude.{◌≡◌, ℕ, ◌-◌, ◌<◌, List, length, sum_by}
use Rattle.path_isolation.specs.Isolations.{DifferInStart, room_along}
use Rattle.preorder_address.specs.Descents.{descent_to, levels_of}
use Rattle.preorder_address.specs.declared.numbering.Numbering.TheVariants.{Nodes}
use Rattle.segment_counts.specs.Weights.{node_weight}
use Rattle.slt_grammar.specs.Keyed.{IsKeyed, Keyed, KeyedRule, rules_of}
use Rattle.slt_grammar.specs.Segments.{preorder}
use Rattle.slt_grammar.specs.declared.level.Level.{Level}

-- the levels to node n of the value
abbrev pub levels_to : List KeyedRule → ℕ → List Level
levels_to G n = levels_of G (descent_to Nodes (length G - 1) n)

-- the value has a node n, and these levels lead there
pub record LeadToNode (G : List KeyedRule) (levels : List Level) (n : ℕ) : Type 0 where
  pub located : levels ≡ levels_to G n
  pub low : n < sum_by node_weight (preorder (rules_of G) (length G - 1))

-- for how many nodes there has to be room where node n is isolated
abbrev pub room_to : List KeyedRule → ℕ → ℕ
room_to G n = room_along G (levels_to G n)

-- a grammar that differs from these rules in the start alone, and its value has a node n
pub record HasNode (G : List KeyedRule) (h : Keyed) (n : ℕ) : Type 0 where
  pub keyed : IsKeyed h
  pub differ : DifferInStart G h.rules
  pub low : n < sum_by node_weight (preorder (rules_of h.rules) (length h.rules - 1))
