-- The preorder of a rule's value, cut at its parameters, and what the stops of a tour stand for in it.
use Rattle.std.specs.Prelude.{ℕ, zero, suc, List, [], ◌∷◌, ◌++◌}
use Rattle.rule_arena.specs.Terms.{Node as KeyedNode, kids_of}
use Rattle.rule_arena.specs.declared.label.Label.{Label}
use Rattle.rule_arena.specs.declared.label.Label.TheVariants.{Bottom, Symbol, Call, Param}
use Rattle.slt_grammar.specs.Algebras.{ranks_of}
use Rattle.slt_grammar.specs.Bodies.{arity}
use Rattle.slt_grammar.specs.Grammars.{body_at, value_at}
use Rattle.slt_grammar.specs.Keyed.{KeyedRule, nodes_at}
use Rattle.slt_grammar.specs.Terms.{Term, Leaf, Node, Hole}
use Rattle.slt_grammar.specs.Tours.{Stop, tour}
use Rattle.slt_grammar.specs.declared.rules.Rule.{Rule}

-- the labels of a term in preorder, and then the rest
abbrev pub listed : Term → List Label → List Label
listed Leaf rest = Bottom ∷ rest
listed (Hole i) rest = Param ∷ rest
listed (Node f a b) rest = Symbol f ∷ listed a (listed b rest)

-- the parameters cut labels into segments, numbered from 0
abbrev pub segment : ℕ → List Label → List Label
segment i [] = []
segment zero (Param ∷ ls) = []
segment (suc i) (Param ∷ ls) = segment i ls
segment zero (l ∷ ls) = l ∷ segment zero ls
segment (suc i) (l ∷ ls) = segment (suc i) ls

-- the labels of a rule's value in preorder
abbrev pub preorder : List Rule → ℕ → List Label
preorder G r = listed (value_at G r) []

-- what a part of a node stands for: of a call the called rule's segment
abbrev pub part_of : List Rule → Label → ℕ → List Label
part_of G (Call q) i = segment i (preorder G q)
part_of G Param i = Param ∷ []
part_of G l zero = l ∷ []
part_of G l (suc i) = []

abbrev pub piece : List Rule → Stop Label → List Label
piece G m = part_of G m.item m.part

-- what stops stand for, one after another, and then the rest
abbrev pub spread : {X : Type 0} → (Stop X → List Label) → List (Stop X) → List Label → List Label
spread f [] rest = rest
spread f (m ∷ ms) rest = f m ++ spread f ms rest

-- the tour of a rule's body, and the same with keys
abbrev pub body_tour : List Rule → ℕ → List (Stop Label)
body_tour G r = tour (arity (ranks_of G)) ([] ∷ []) (body_at G r)

abbrev pub node_tour : List KeyedRule → ℕ → List (Stop KeyedNode)
node_tour G r = tour kids_of ([] ∷ []) (nodes_at G r)
