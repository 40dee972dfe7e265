-- Terms as bodies of rules.
use Rattle.std.specs.Prelude.{List, [], ◌∷◌, ◌++◌}
use Rattle.rule_arena.specs.declared.label.Label.{Label}
use Rattle.rule_arena.specs.declared.label.Label.TheVariants.{Bottom, Symbol, Param}
use Rattle.slt_grammar.specs.Terms.{Term, Leaf, Node, Hole}
use Rattle.slt_grammar.specs.declared.rules.Rule.{Rule}

-- the labels of a term in preorder
abbrev pub term_labels : Term → List Label
term_labels Leaf = Bottom ∷ []
term_labels (Node f a b) = Symbol f ∷ (term_labels a ++ term_labels b)
term_labels (Hole i) = Param ∷ []

-- the grammar whose one rule has a term without holes as its body
abbrev pub one_rule : Term → List Rule
one_rule term = record { rank = 0; body = term_labels term } ∷ []
