-- Tables of names that grow.
use Rattle.std.specs.Prelude.{◌≡◌, ℕ, List, [], ◌∷◌, ◌++◌, Some, slice_get, ◌⊎◌}
pub use Rattle.plain_tree.specs.NodePairs.{Pair, tree_pair, pairs_of_tree, pairs_of_trees}

abbrev pub IsIn : Pair → List Pair → Type 0
IsIn pair names = (place : ℕ) × (slice_get names place ≡ Some pair)

-- The old names have grown by the pairs: no pairs leave them, a pair that is in them is passed over, and any other stands
-- at their end before the others come.
abbrev pub Interns : List Pair → List Pair → List Pair → Type 0
Interns old [] new = new ≡ old
Interns old (pair ∷ pairs) new = (IsIn pair old × Interns old pairs new) ⊎ ((IsIn pair old → ⊥) × Interns (old ++ pair ∷ []) pairs new)
