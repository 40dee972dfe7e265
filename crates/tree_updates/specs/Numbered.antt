-- Nodes of the value by their numbers, once they stand in the start's body.
use Rattle.std.specs.Prelude.{◌≡◌, ℕ, ◌-◌, List, length, Some}
use Rattle.rule_arena.specs.declared.key.Key.{Key}
use Rattle.rule_arena.specs.declared.label.Label.TheVariants.{Symbol}
use Rattle.slt_grammar.specs.ChangedValues.{term_around}
use Rattle.slt_grammar.specs.Keyed.{KeyedRule, key_at, rules_of}
use Rattle.slt_grammar.specs.KeyedEdits.{label_at}
use Rattle.slt_grammar.specs.Terms.{Term, Node}
use Rattle.slt_grammar.specs.declared.rules.Rule.{Rule}
use Rattle.segment_counts.specs.Weights.{node_weight}
use Rattle.tree_updates.specs.Differences.{DifferThere, hole_at}

-- The key stands in the start's body at the node that has this number of the value: it is a symbol, and as many nodes stand before it
-- as the number says.
pub record IsNodeIsolated (H : List KeyedRule) (number : ℕ) (key : Key) : Type 0 where
  pub place : ℕ
  pub symbol : ℕ
  pub there : key_at H (length H - 1) place ≡ Some key
  pub label : label_at H (length H - 1) place ≡ Symbol symbol
  pub before : hole_at node_weight (term_around (rules_of H) place) ≡ number

-- the node with this number gives way to what stands in its second child's place
pub record LosesNode (G H : List Rule) (number : ℕ) : Type 0 where
  pub symbol : ℕ
  pub left : Term
  pub right : Term
  pub differ : DifferThere node_weight G H number (Node symbol left right) right

-- the node with this number has this symbol in the place of its own
pub record GetsSymbol (G H : List Rule) (number symbol : ℕ) : Type 0 where
  pub was : ℕ
  pub left : Term
  pub right : Term
  pub differ : DifferThere node_weight G H number (Node was left right) (Node symbol left right)
