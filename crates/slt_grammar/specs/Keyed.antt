-- What contracts see of a grammar.
use Rattle.std.specs.Prelude.{◌≡◌, ◌<◌, ◌^◌, ℕ, List, [], map, get_or, Option, Some, All}
use Rattle.rule_arena.specs.Terms.{Node, key_in}
use Rattle.rule_arena.specs.declared.key.Key.{Key}
use Rattle.rule_arena.specs.declared.label.Label.{Label}
use Rattle.slt_grammar.specs.Algebras.{ranks_of}
use Rattle.slt_grammar.specs.Bodies.{arity}
use Rattle.slt_grammar.specs.Grammars.{IsGrammar, whole}
use Rattle.slt_grammar.specs.declared.rules.Rule.{Rule}

-- a rule whose nodes carry their keys, in preorder
pub record KeyedRule : Type 0 where
  pub rank : ℕ
  pub nodes : List Node

-- the rules, for how many more nodes and rules there is room, and a number above those of all nodes
pub record Keyed : Type 0 where
  pub rules : List KeyedRule
  pub spare_nodes : ℕ
  pub spare_rules : ℕ
  pub limit : ℕ

abbrev pub labels_of : List Node → List Label
labels_of = map (λ n. n.label)

-- the rules without the keys
abbrev pub rules_of : List KeyedRule → List Rule
rules_of = map (λ R. record { rank = R.rank; body = labels_of R.nodes })

-- the nodes of a rule, and none where no rule is
abbrev pub nodes_at : List KeyedRule → ℕ → List Node
nodes_at G r = (get_or G r (record { rank = 0; nodes = [] })).nodes

-- the key at a place of a rule
abbrev pub key_at : List KeyedRule → ℕ → ℕ → Option Key
key_at G r p = key_in (nodes_at G r) p

-- each node has as many children as its label says
abbrev pub HasArities : List ℕ → List Node → Type 0
HasArities ranks = All (λ n. n.kids ≡ arity ranks n.label)

-- what is true of every grammar
pub record IsKeyed (g : Keyed) : Type 0 where
  -- the rules are a grammar
  pub grammar : IsGrammar (rules_of g.rules)
  pub few : whole (rules_of g.rules) < 2 ^ 63
  pub arities : (r : ℕ) → HasArities (ranks_of (rules_of g.rules)) (nodes_at g.rules r)
  -- a key stands at one place of one rule
  pub once : (key : Key) (r p s q : ℕ) → key_at g.rules r p ≡ Some key → key_at g.rules s q ≡ Some key → (r ≡ s) × (p ≡ q)
  pub below : (key : Key) (r p : ℕ) → key_at g.rules r p ≡ Some key → key.number < g.limit
