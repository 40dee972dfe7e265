-- The calls of a rule, by their keys.
use Rattle.std.specs.Prelude.{◌≡◌, ℕ, List, slice_get, Some}
use Rattle.rule_arena.specs.Terms.{Node}
use Rattle.rule_arena.specs.declared.key.Key.{Key}
use Rattle.rule_arena.specs.declared.label.Label.TheVariants.{Call}
use Rattle.slt_grammar.specs.Keyed.{KeyedRule, nodes_at}

-- a key stands at a call of the rule
pub record StandsAsCallOf (G : List KeyedRule) (q : ℕ) (key : Key) : Type 0 where
  pub rule : ℕ
  pub place : ℕ
  pub node : Node
  pub there : slice_get (nodes_at G rule) place ≡ Some node
  pub named : node.key ≡ key
  pub label : node.label ≡ Call q
