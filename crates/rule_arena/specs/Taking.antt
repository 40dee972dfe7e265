-- Terms out of which a node is taken.
use Rattle.std.specs.Prelude.{◌≡◌, ◌<◌, ◌≤◌, ◌+◌, ◌-◌, ℕ, List, [], ◌∷◌, length, drop, if◌then◌else◌, eqb, Some}
use Rattle.rule_arena.specs.Preorder.{subterm, with_subterm}
use Rattle.rule_arena.specs.Terms.{Node, Terms, At, kids_of, kids_in, parent_in}
use Rattle.rule_arena.specs.declared.key.Key.{Key}

-- a key stands below a root
abbrev pub IsInner : Terms → Key → Type 0
IsInner a key = (x : At a key) × (0 < x.place)

-- a key stands below a node that has at most eight children once those of the key take its place
pub record FitsItsParent (a : Terms) (key : Key) : Type 0 where
  pub here : At a key
  pub up : Key
  pub place : ℕ
  pub parent : parent_in here.nodes here.place ≡ Some (up, place)
  pub above : At a up
  pub few : length (kids_in above.nodes above.place) + length (kids_in here.nodes here.place) ≤ 9

-- the nodes, where the one with this key has so many children in the place of one
abbrev pub regrown : List Node → Key → ℕ → List Node
regrown [] up n = []
regrown (m ∷ ms) up n = record m { kids = if eqb m.key.number up.number then m.kids + n - 1 else m.kids } ∷ regrown ms up n

-- the nodes without the term at a place, which is a child of the node with this key
abbrev pub without_term : List Node → Key → ℕ → List Node
without_term ns up p = with_subterm kids_of (regrown ns up 0) p []

-- the nodes without the one at a place, whose children the node with this key has in its place
abbrev pub without_node : List Node → Key → ℕ → List Node
without_node ns up p = with_subterm kids_of (regrown ns up (length (kids_in ns p))) p (drop 1 (subterm kids_of ns p))
