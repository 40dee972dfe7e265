-- Bodies that are put around a node.
use Rattle.std.specs.Prelude.{◌≡◌, ℕ, ◌+◌, ◌-◌, List, [], ◌∷◌, length, map}
use Rattle.rule_arena.specs.Preorder.{subterm, with_subterm}
use Rattle.rule_arena.specs.Terms.{Node, Terms, kids_of}
use Rattle.rule_arena.specs.declared.key.Key.{Key}
use Rattle.rule_arena.specs.declared.label.Label.{Label}
use Rattle.slt_grammar.specs.Algebras.{ranks_of}
use Rattle.slt_grammar.specs.Bodies.{arity, params, CallsBelow, IsTerm}
use Rattle.slt_grammar.specs.Copying.{copied}
use Rattle.slt_grammar.specs.Holding.{Changed}
use Rattle.slt_grammar.specs.Keyed.{KeyedRule, nodes_at, rules_of}
use Rattle.slt_grammar.specs.KeyedEdits.{Stands, with_nodes}
use Rattle.slt_grammar.specs.declared.rules.Rule.{Rule}

-- a key stands in the start rule
pub record IsInStart (G : List KeyedRule) (key : Key) : Type 0 where
  pub here : Stands G key
  pub start : here.rule + 1 ≡ length G

-- a lawful body of a rule of rank 1 just before the start
pub record IsWrapper (G : List Rule) (body : List Label) : Type 0 where
  pub earlier : CallsBelow (length G - 1) body
  pub term : IsTerm (ranks_of G) body
  pub linear : params body ≡ 1

-- a body's nodes, under one key
abbrev pub nodes_of : List ℕ → Key → List Label → List Node
nodes_of ranks key = map (λ l. record { key = key; label = l; kids = arity ranks l })

-- the nodes with a copy of others around the node at a place, whose term stands in the parameter's place
abbrev pub around : List Node → ℕ → List Node → List Key → List Node
around ns p body keys = with_subterm kids_of ns p (copied body (subterm kids_of ns p ∷ []) keys)

-- nodes were copied around the node at a place of a body, under the keys of a list
pub record Wrapped (a b : Terms) (roots news : List Key) (r : ℕ) (ns : List Node) (p : ℕ) (body : List Node) : Type 0 where
  pub keys : List Key
  pub many : length keys ≡ length body
  pub changed : Changed a b roots news r (around ns p body keys)

-- a body was put around the node at a place of a rule; its nodes have the keys of a list, one for each label
pub record IsWrapped (G H : List KeyedRule) (r p : ℕ) (key : Key) (body : List Label) : Type 0 where
  pub keys : List Key
  pub many : length keys ≡ length body
  pub rules : H ≡ with_nodes G r (around (nodes_at G r) p (nodes_of (ranks_of (rules_of G)) key body) keys)
