-- Rules with keys that are changed at one place.
use Rattle.std.specs.Prelude.{◌≡◌, ◌≢◌, ℕ, zero, suc, ◌+◌, ◌-◌, ◌<◌, List, [], ◌∷◌, ◌++◌, length, insert, remove, map, take, drop, get_or, slice_get, Some}
use Rattle.rule_arena.specs.Preorder.{terms, subterm, with_subterm}
use Rattle.rule_arena.specs.Taking.{without_node}
use Rattle.rule_arena.specs.Terms.{Node, kids_in, kids_of, labelled}
use Rattle.rule_arena.specs.declared.key.Key.{Key}
use Rattle.rule_arena.specs.declared.label.Label.{Label}
use Rattle.rule_arena.specs.declared.label.Label.TheVariants.{Bottom, Symbol, Call, Param}
use Rattle.slt_grammar.specs.Algebras.{ranks_of}
use Rattle.slt_grammar.specs.Bodies.{arity}
use Rattle.slt_grammar.specs.Copying.{inlined_nodes}
use Rattle.slt_grammar.specs.Grammars.{body_at, calls_of, rank_at}
use Rattle.slt_grammar.specs.Placing.{shifted_node, unshifted_node}
use Rattle.slt_grammar.specs.Keyed.{KeyedRule, key_at, nodes_at, rules_of}

-- the label at a place of a rule
abbrev pub label_at : List KeyedRule → ℕ → ℕ → Label
label_at G r p = get_or (body_at (rules_of G) r) p Bottom

-- the rules with other nodes for one of them
abbrev pub with_nodes : List KeyedRule → ℕ → List Node → List KeyedRule
with_nodes G r ns = take r G ++ record { rank = rank_at (rules_of G) r; nodes = ns } ∷ drop (r + 1) G

-- a key stands at a place of a rule
pub record Stands (G : List KeyedRule) (key : Key) : Type 0 where
  pub rule : ℕ
  pub place : ℕ
  pub there : key_at G rule place ≡ Some key

-- and its label is a symbol
pub record StandsAsSymbol (G : List KeyedRule) (key : Key) : Type 0 where
  pub here : Stands G key
  pub symbol : ℕ
  pub label : label_at G here.rule here.place ≡ Symbol symbol

-- and stands in the start rule
pub record StandsInStart (G : List KeyedRule) (key : Key) : Type 0 where
  pub node : StandsAsSymbol G key
  pub start : node.here.rule + 1 ≡ length G

-- a key stands at a call
pub record StandsAsCall (G : List KeyedRule) (key : Key) : Type 0 where
  pub here : Stands G key
  pub called : ℕ
  pub label : label_at G here.rule here.place ≡ Call called

-- a call gave way to a copy of its rule's nodes over its children. Each copied node, a child in a parameter's place, has its key in
-- a list; there `moved` stands for the node to follow
pub record IsInlined (G H : List KeyedRule) (r p q : ℕ) (follow moved : Key) : Type 0 where
  pub keys : List Key
  pub many : length keys ≡ length (nodes_at G q)
  pub rules : H ≡ with_nodes G r (inlined_nodes (nodes_at G r) p (nodes_at G q) keys)
  pub follows : (j : ℕ) → key_at G q j ≡ Some follow → slice_get keys j ≡ Some moved

-- the nodes with the second child of the node at a place in its place
abbrev pub lifted_nodes : List Node → ℕ → List Node
lifted_nodes ns p = with_subterm kids_of ns p (get_or (terms kids_of 2 (drop (p + 1) ns)) 1 [])

-- the nodes of the first child of the node at a place
abbrev pub first_child_nodes : List Node → ℕ → List Node
first_child_nodes ns p = get_or (terms kids_of 2 (drop (p + 1) ns)) 0 []

-- so many parameters
abbrev pub parameters : ℕ → List Label
parameters zero = []
parameters (suc n) = Param ∷ parameters n

-- a node and its child at a place from 0, over parameters
abbrev pub digram_body : List ℕ → Label → ℕ → Label → List Label
digram_body ranks upper child lower =
    upper ∷ (parameters child ++ (lower ∷ parameters (arity ranks lower + (arity ranks upper - suc child))))

-- a node and its parent are, over parameters, the body of a rule that is earlier than theirs
pub record FoldsInto (G : List KeyedRule) (lower : Key) (called : ℕ) : Type 0 where
  pub here : Stands G lower
  pub upper : Key
  pub place : ℕ
  pub above : key_at G here.rule place ≡ Some upper
  pub child : ℕ
  pub is_child : slice_get (kids_in (nodes_at G here.rule) place) child ≡ Some lower
  pub earlier : called < here.rule
  pub real : label_at G here.rule here.place ≢ Param
  pub body : body_at (rules_of G) called
      ≡ digram_body (ranks_of (rules_of G)) (label_at G here.rule place) child (label_at G here.rule here.place)

-- the nodes with one node, of another label, for the one at a place and its child at another, over the children of both
abbrev pub folded_nodes : List Node → ℕ → Key → ℕ → Label → List Node
folded_nodes ns place upper low label = labelled (without_node ns upper low) place label

-- a rule once the rule at a place, which it does not call, was taken away
abbrev pub unshifted_keyed : ℕ → KeyedRule → KeyedRule
unshifted_keyed place R = record { rank = R.rank; nodes = map (unshifted_node place) R.nodes }

-- the rules without one that is not called
abbrev pub rule_dropped : List KeyedRule → ℕ → List KeyedRule
rule_dropped G place = map (unshifted_keyed place) (remove G place)

-- a rule once another was put before the rule at a place
abbrev pub shifted_keyed : ℕ → KeyedRule → KeyedRule
shifted_keyed place R = record { rank = R.rank; nodes = map (shifted_node place) R.nodes }

-- the rules with one put before the rule at a place, whose own calls name the new places
abbrev pub rule_put : List KeyedRule → ℕ → KeyedRule → List KeyedRule
rule_put G place R = insert (map (shifted_keyed place) G) place R

-- the second rules are the first without some, each of which was not called when it was dropped, nor the start
pub data DropsTo : List KeyedRule → List KeyedRule → Type 0 where
  NoDrop : (G : List KeyedRule) → DropsTo G G
  Drop : (G H : List KeyedRule) (rule : ℕ) → DropsTo G H → rule + 1 < length H → calls_of (rules_of H) rule ≡ 0 → DropsTo G (rule_dropped H rule)

-- the rules once the term of a node of the start became a rule of its own before it, and a call with a key stands in its place
abbrev pub rule_shared : List KeyedRule → ℕ → ℕ → Key → List KeyedRule
rule_shared G start p key =
    let ns : List Node = nodes_at G start in
    let call : Node = record { key = key; label = Call start; kids = 0 } in
    take start G ++ record { rank = 0; nodes = subterm kids_of ns p } ∷ record { rank = 0; nodes = with_subterm kids_of ns p (call ∷ []) } ∷ []
