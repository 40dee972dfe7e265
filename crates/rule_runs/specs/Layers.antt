-- Lists one above another, kept as one list with the places where they begin.
use Rattle.std.specs.Prelude.{ℕ, ◌-◌, ◌≤◌, List, [], ◌∷◌, length, take, drop}

-- the topmost list, and those below it
pub record Layered (T : Type 0) : Type 0 where
  pub top : List T
  pub below : List (List T)

-- the lists that begin at these places, counted from the end of all
abbrev pub cut_at : {T : Type 0} → List ℕ → List T → List (List T)
cut_at [] xs = []
cut_at (f ∷ fs) xs = take (length xs - f) xs ∷ cut_at fs (drop (length xs - f) xs)

abbrev pub layered : {T : Type 0} → ℕ → List ℕ → List T → Layered T
layered floor floors xs = record { top = take (length xs - floor) xs; below = cut_at floors (drop (length xs - floor) xs) }

-- each list begins no later than the one above it
abbrev pub AreFloors : List ℕ → ℕ → Type 0
AreFloors [] n = Unit {0}
AreFloors (f ∷ fs) n = (f ≤ n) × AreFloors fs f
