-- Walks over the labels of one rule's body.
use Rattle.std.specs.Prelude.{◌≡◌, ℕ, List, [], ◌∷◌, drop, Option, Some, None}
use Rattle.rule_arena.specs.declared.label.Label.{Label}
use Rattle.slt_grammar.specs.Keyed.{KeyedRule, labels_of, nodes_at}

-- the labels of a rule from a place on
abbrev pub labels_from : List KeyedRule → ℕ → ℕ → List Label
labels_from G rule place = drop place (labels_of (nodes_at G rule))

-- the first label that is left and then the rest, and None exactly where none is left
abbrev pub IsNextLabel : List Label → Option Label → List Label → Type 0
IsNextLabel old None new = (old ≡ []) × (new ≡ [])
IsNextLabel old (Some label) new = old ≡ label ∷ new
