-- Bodies that end in their parameter, and what stands above a place of the start.
use Rattle.std.specs.Prelude.{◌≡◌, ◌<◌, ℕ, List, [], ◌∷◌, ◌++◌, length, Option}
use Rattle.rule_arena.specs.Terms.{parent_in}
use Rattle.rule_arena.specs.declared.key.Key.{Key}
use Rattle.rule_arena.specs.declared.label.Label.{Label}
use Rattle.rule_arena.specs.declared.label.Label.TheVariants.{Param}
use Rattle.slt_grammar.specs.Keyed.{KeyedRule, nodes_at}
use Rattle.linked_edits.specs.Runs.{start_of}

-- the last label is a parameter
pub record EndsInParam (body : List Label) : Type 0 where
  pub front : List Label
  pub is : body ≡ front ++ Param ∷ []

-- the start has this place, and the node there this parent
pub record IsBelow (G : List KeyedRule) (place : ℕ) (above : Option (Key × ℕ)) : Type 0 where
  pub inside : place < length (nodes_at G (start_of G))
  pub parent : parent_in (nodes_at G (start_of G)) place ≡ above
