-- What each visit of a walk adds to a code.
use Rattle.std.specs.Prelude.{◌≡◌, ℕ, List, [], ◌∷◌, ◌++◌, map, Some, slice_get}
use Rattle.rule_arena.specs.declared.label.Label.{Label}
use Rattle.rule_arena.specs.declared.label.Label.TheVariants.{Bottom, Symbol}
use Rattle.plain_tree.specs.Tree.{Tree, Trees}
use Rattle.plain_tree.specs.Numbers.{values_of}
use Rattle.plain_tree.specs.Visits.{TreeVisit, Opened, Closed, all_visits_then, opened}
use Rattle.fcns_encoding.specs.Interning.{Pair, tree_pair}

-- a node that is opened has its symbol, one that is closed the bottom behind its kids
abbrev pub IsLabelOf : List Pair → TreeVisit → Label → Type 0
IsLabelOf names (Opened t) label = (symbol : ℕ) × (slice_get names symbol ≡ Some (tree_pair t)) × (label ≡ Symbol symbol)
IsLabelOf names (Closed t) label = label ≡ Bottom

-- a label for each visit, in order
abbrev pub Spelled : List Pair → List TreeVisit → List Label → Type 0
Spelled names [] ls = ls ≡ []
Spelled names (v ∷ vs) ls = (label : Label) × (rest : List Label) × IsLabelOf names v label × Spelled names vs rest × (ls ≡ label ∷ rest)

-- the labels have grown by one for each visit
abbrev pub Grows : List Pair → List TreeVisit → List Label → List Label → Type 0
Grows names vs old new = (added : List Label) × Spelled names vs added × (new ≡ old ++ added)

-- the visits of the trees of a list
abbrev pub list_visits : Trees → List TreeVisit
list_visits ts = all_visits_then ts []

abbrev pub own_texts : Tree → List (List ℕ)
own_texts t = values_of (t ∷ [])

abbrev pub texts_at : TreeVisit → List (List ℕ)
texts_at visit = values_of (opened (visit ∷ []))

abbrev pub pairs_at : TreeVisit → List Pair
pairs_at visit = map tree_pair (opened (visit ∷ []))
