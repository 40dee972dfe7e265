-- The tour of a body: each node once before its children and once after each of them, in document order.
use Rattle.std.specs.Prelude.{ℕ, zero, suc, List, [], ◌∷◌, ◌++◌, drop, get_or}

-- a part of a node: part 0 comes before its first child, part i behind child i
pub record Stop (X : Type 0) : Type 0 where
  pub item : X
  pub part : ℕ

abbrev pub stop : {X : Type 0} → X → ℕ → Stop X
stop x i = record { item = x; part = i }

-- the stops behind each of n children of a node, from part i on, where `after` is behind the node itself
abbrev pub opened_kids : {X : Type 0} → X → ℕ → ℕ → List (Stop X) → List (List (Stop X))
opened_kids x i zero after = []
opened_kids x i (suc zero) after = (stop x i ∷ after) ∷ []
opened_kids x i (suc (suc n)) after = (stop x i ∷ []) ∷ opened_kids x (suc i) (suc n) after

-- the stops at once behind a part with n parts still to come
abbrev pub once_closed : {X : Type 0} → ℕ → List (Stop X) → List (Stop X)
once_closed zero after = after
once_closed (suc n) after = []

-- the stops behind each term that is open once a node was met
abbrev pub entered : {X : Type 0} → (X → ℕ) → X → List (List (Stop X)) → List (List (Stop X))
entered ar x afters = opened_kids x 1 (ar x) (get_or afters 0 []) ++ drop 1 afters

-- the tour of terms in preorder, with the stops behind each of them
abbrev pub tour : {X : Type 0} → (X → ℕ) → List (List (Stop X)) → List X → List (Stop X)
tour ar afters [] = []
tour ar afters (x ∷ xs) = stop x 0 ∷ (once_closed (ar x) (get_or afters 0 []) ++ tour ar (entered ar x afters) xs)

-- the stops behind the node at each place
abbrev pub behind : {X : Type 0} → (X → ℕ) → List (List (Stop X)) → List X → List (List (Stop X))
behind ar afters [] = []
behind ar afters (x ∷ xs) = get_or afters 0 [] ∷ behind ar (entered ar x afters) xs

-- the tour from the node at a place on
abbrev pub tour_from : {X : Type 0} → (X → ℕ) → List (List (Stop X)) → List X → ℕ → List (Stop X)
tour_from ar afters xs zero = tour ar afters xs
tour_from ar afters [] (suc p) = []
tour_from ar afters (x ∷ xs) (suc p) = tour_from ar (entered ar x afters) xs p
