-- How a chain of names is read against a model, from its end on. Each Name of the model is a place, and places have numbers from left to right.
use Rattle.std.specs.Prelude.{ℕ, ◌+◌, List, [], ◌∷◌, ◌++◌, Bool, ◌||◌, ◌&&◌}
use Rattle.std.specs.Str.{bytes_eq}
use Rattle.content_models.specs.Models.{Model, Named, Nothing, Then, Either, Optional, Any, Some}

-- how many places a model has
abbrev pub places : Model → ℕ
places (Named name) = 1
places Nothing = 0
places (Then a b) = places a + places b
places (Either a b) = places a + places b
places (Optional a) = places a
places (Any a) = places a
places (Some a) = places a

-- whether the rest of a chain can be read from the front of a model on, whose first place has this number: marks says of each place whether it can be read from there
-- on, and behind, whether it can be read from the model's end on
abbrev pub enter : ℕ → Model → (ℕ → Bool) → Bool → Bool
enter at (Named name) marks behind = marks at
enter at Nothing marks behind = behind
enter at (Then a b) marks behind = enter at a marks (enter (at + places a) b marks behind)
enter at (Either a b) marks behind = enter at a marks behind || enter (at + places a) b marks behind
enter at (Optional a) marks behind = behind || enter at a marks behind
enter at (Any a) marks behind = behind || enter at a marks behind
enter at (Some a) marks behind = enter at a marks behind

-- the places of a model from which the chain can be read once a name stands before it
abbrev pub read : List ℕ → ℕ → Model → (ℕ → Bool) → Bool → List Bool
read name at (Named wanted) marks behind = (bytes_eq wanted name && behind) ∷ []
read name at Nothing marks behind = []
read name at (Then a b) marks behind = read name at a marks (enter (at + places a) b marks behind) ++ read name (at + places a) b marks behind
read name at (Either a b) marks behind = read name at a marks behind ++ read name (at + places a) b marks behind
read name at (Optional a) marks behind = read name at a marks behind
read name at (Any a) marks behind = read name at a marks (behind || enter at a marks behind)
read name at (Some a) marks behind = read name at a marks (behind || enter at a marks behind)
