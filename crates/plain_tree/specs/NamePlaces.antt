-- The places of the names of one kind.
use Rattle.std.specs.Prelude.{ℕ, List, map, Option, nat_eq}
use Rattle.std.specs.Map.{lookup}
use lib.Pointwise.{pointwise}
use Rattle.std.specs.declared.vec.Vec.{Vec}

-- what a map of names shows: names with their places
abbrev pub shown : {A : Type 0} → List (Vec ℕ A × ℕ) → List (List ℕ × ℕ)
shown = map (λ e. (e.0.items, e.1))

abbrev pub place_of : List ℕ → List (List ℕ × ℕ) → Option ℕ
place_of name places = lookup (pointwise nat_eq name) places
