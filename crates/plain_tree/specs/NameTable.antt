-- A table of names: distinct pairs of kind and name, with a map from names to places for each kind.
use Rattle.std.specs.Prelude.{◌≡◌, ℕ, List, [], map, Option, Some, None, slice_get, slice_index_or}
use Rattle.std.specs.Borrow.{Bor}
use Rattle.plain_tree.specs.declared.kind.Kind.{Kind}
use Rattle.plain_tree.specs.Tree.{kind_code}
use Rattle.plain_tree.specs.NamePlaces.{place_of}
use Rattle.plain_tree.specs.declared.names.Pair.{Pair}

abbrev pub pair_of : Pair → Kind × List ℕ
pair_of p = (p.kind, p.name)

abbrev pub pairs_of : List Pair → List (Kind × List ℕ)
pairs_of = map pair_of

-- the map of a kind has just the names of that kind, at their places
pub record Agrees (pairs : List (Kind × List ℕ)) (places : Kind → List (List ℕ × ℕ)) : Type 0 where
  pub found : (kind : Kind) (name : List ℕ) (i : ℕ) → place_of name (places kind) ≡ Some i → slice_get pairs i ≡ Some (kind, name)
  pub placed : (kind : Kind) (name : List ℕ) (i : ℕ) → slice_get pairs i ≡ Some (kind, name) → place_of name (places kind) ≡ Some i

abbrev pub map_at : List (List (List ℕ × ℕ)) → Kind → List (List ℕ × ℕ)
map_at maps kind = slice_index_or maps (kind_code kind) []

-- no pair stands twice
abbrev pub AreDistinct : List (Kind × List ℕ) → Type 0
AreDistinct pairs = (kind : Kind) (name : List ℕ) (i j : ℕ) → slice_get pairs i ≡ Some (kind, name) → slice_get pairs j ≡ Some (kind, name) → i ≡ j

-- a pair that is lent
abbrev pub seen_pair : Option (Kind × Bor (List ℕ)) → Option (Kind × List ℕ)
seen_pair None = None
seen_pair (Some (kind, name)) = Some (kind, name.now)
