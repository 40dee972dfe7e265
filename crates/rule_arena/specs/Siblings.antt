-- Children by the links between siblings.
use Rattle.std.specs.Prelude.{◌≡◌, ◌≢◌, ℕ, zero, suc, List, [], ◌∷◌, map, slice_get, Option, Some, None}
use Rattle.slab.specs.Slab.{Slab, get}
use Rattle.rule_arena.specs.Linked.{Cell, Raw}
use Rattle.rule_arena.specs.Terms.{Apart}
use Rattle.rule_arena.specs.declared.key.Key.{Key}

-- the next sibling that a slot names
abbrev pub after : Option Raw → Key
after None = record { number = 0 }
after (Some r) = r.next

-- so many nodes from one on, each the next sibling of the one before
abbrev pub row : (ℕ → Option Raw) → ℕ → Key → List Key
row H zero k = []
row H (suc n) k = k ∷ row H n (after (H k.number))

-- the node so many steps after one, from sibling to sibling
abbrev pub step : (ℕ → Option Raw) → ℕ → Key → Key
step H zero k = k
step H (suc n) k = after (H (step H n k).number)

-- a cell with its children
abbrev pub linked : (ℕ → Option Raw) → Raw → Cell
linked H r = record { label = r.label; parent = r.parent; kids = row H r.count r.first }

-- a slot with its cell's children
abbrev pub linked_slot : (ℕ → Option Raw) → Option Raw → Option Cell
linked_slot H None = None
linked_slot H (Some r) = Some (linked H r)

-- what contracts see of slots: each cell with its children
unfoldable pub seen : Slab Raw → Slab Cell
seen s = record { slots = map (linked_slot (get s)) s.slots; vacant_key = s.vacant_key; capacity = s.capacity }

-- the parent that a slot names
abbrev pub parent_at : Option Cell → Option (Key × ℕ)
parent_at None = None
parent_at (Some c) = c.parent

-- each child names its parent and its place
abbrev pub Tied : Slab Cell → Type 0
Tied s =
    (n : ℕ) (c : Cell) (i : ℕ) (k : Key) → get s n ≡ Some c → slice_get c.kids i ≡ Some k → parent_at (get s k.number) ≡ Some (record { number = n }, suc i)

-- no node has this one as a child
abbrev pub IsNoChild : Slab Cell → ℕ → Type 0
IsNoChild s a = (n : ℕ) (c : Cell) (i : ℕ) (k : Key) → get s n ≡ Some c → slice_get c.kids i ≡ Some k → k.number ≢ a

-- no other node has one of these as a child
abbrev pub AreNoChildren : Slab Cell → Key → List Key → Type 0
AreNoChildren s up ks = (n : ℕ) (c : Cell) (i : ℕ) (k : Key) → n ≢ up.number → get s n ≡ Some c → slice_get c.kids i ≡ Some k → Apart ks k.number
