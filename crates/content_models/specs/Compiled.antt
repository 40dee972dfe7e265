-- What a schema is compiled to.
use Rattle.std.specs.Prelude.{◌≡◌, ℕ, suc, ◌^◌, List, [], ◌∷◌, map, get_or, Some, slice_get, Bool, false, ◌||◌, ◌&&◌, if◌then◌else◌}
use Rattle.std.specs.List.{list_any}
use Rattle.std.specs.Str.{bytes_eq}
use Rattle.plain_tree.specs.declared.kind.Kind.{Kind}
use Rattle.plain_tree.specs.declared.kind.Kind.TheVariants.{Element}
use Rattle.content_models.specs.declared.sorts.Sort.{Sort}
use Rattle.content_models.specs.declared.sorts.Sort.TheVariants.{Other, Free, Ruled}
use Rattle.content_models.specs.declared.ways.Spot.{Spot}
use Rattle.content_models.specs.declared.ways.Way.{Way}
use Rattle.content_models.specs.Checking.{Checking}
use Rattle.content_models.specs.Models.{Model}
use Rattle.content_models.specs.Ways.{Place, places_of, to_end, way_of}

-- the first model of these that is given to the name, where the first has the number i
abbrev pub ruled_from : ℕ → List (List ℕ × Model) → List ℕ → Sort
ruled_from i [] name = Free
ruled_from i ((n, m) ∷ schema) name = if bytes_eq n name then Ruled i else ruled_from (suc i) schema name

abbrev pub sort_of : List (List ℕ × Model) → Kind → List ℕ → Sort
sort_of schema Element name = ruled_from 0 schema name
sort_of schema _ name = Other

-- a place in a row: of the model with this number, with this number
abbrev pub spot_at : ℕ → ℕ → Way → Spot
spot_at i at next = record { model = i; bit = 2 ^ at; next = next }

-- whether a test passes for a place of the name, among those of a model and of all
abbrev pub any_place : List ℕ → (Spot → Bool) → ℕ → ℕ → List Place → Bool
any_place name test i at [] = false
any_place name test i at (p ∷ ps) = (bytes_eq p.name name && test (spot_at i at p.next)) || any_place name test i (suc at) ps

abbrev pub any_spot : List ℕ → (Spot → Bool) → ℕ → List (List ℕ × Model) → Bool
any_spot name test i [] = false
any_spot name test i (pair ∷ schema) = any_place name test i 0 (places_of 0 pair.1 to_end) || any_spot name test (suc i) schema

-- a row has the places of its symbol's name, in any order
pub record IsCompiled (schema : List (List ℕ × Model)) (names : List (Kind × List ℕ)) (c : Checking) : Type 0 where
  pub sorts : c.sorts ≡ map (λ pair. sort_of schema pair.0 pair.1) names
  pub fronts : c.fronts ≡ map (λ pair. way_of 0 pair.1 to_end) schema
  pub rows : (f : ℕ) (name : List ℕ) → slice_get names f ≡ Some (Element, name) → (test : Spot → Bool) → list_any test (get_or c.rows f []) ≡ any_spot name test 0 schema

-- the tests that pass for a row pass with the places of all models too
abbrev pub AddsAll : List (Kind × List ℕ) → List (List ℕ × Model) → List (List Spot) → List (List Spot) → Type 0
AddsAll names schema old new =
    (f : ℕ) (name : List ℕ) → slice_get names f ≡ Some (Element, name) → (test : Spot → Bool)
    → list_any test (get_or new f []) ≡ (list_any test (get_or old f []) || any_spot name test 0 schema)
