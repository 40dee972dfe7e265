-- Links between siblings that are written.
use Rattle.std.specs.Prelude.{ℕ, zero, suc, List, [], ◌∷◌, slice_index_or, Option, Some, None}
use Rattle.slab.specs.Slab.{Slab, get}
use Rattle.rule_arena.specs.Changing.{changed}
use Rattle.rule_arena.specs.Linked.{Raw}
use Rattle.rule_arena.specs.Siblings.{step}
use Rattle.rule_arena.specs.declared.key.Key.{Key}

-- a cell with another first child
abbrev pub with_first : Key → Raw → Raw
with_first k r = record { label = r.label; parent = r.parent; first = k; count = r.count; next = r.next }

-- a cell with another next sibling
abbrev pub with_next : Key → Raw → Raw
with_next k r = record { label = r.label; parent = r.parent; first = r.first; count = r.count; next = k }

-- a cell under a parent, before a sibling
abbrev pub in_row : Option (Key × ℕ) → Key → Raw → Raw
in_row p k r = record { label = r.label; parent = p; first = r.first; count = r.count; next = k }

-- a cell with so many children from one on
abbrev pub with_row : Key → ℕ → Raw → Raw
with_row k n r = record { label = r.label; parent = r.parent; first = k; count = n; next = r.next }

-- the first child of a slot
abbrev pub first_in : Option Raw → Key
first_in None = record { number = 0 }
first_in (Some r) = r.first

-- the link to a node's child at a place from 0 leads to this one
abbrev pub led : Slab Raw → Key → ℕ → Key → Slab Raw
led s up zero k = changed s up.number (with_first k)
led s up (suc i) k = changed s (step (get s) i (first_in (get s up.number))).number (with_next k)

-- the first of these
abbrev pub first_key : List Key → Key
first_key ks = slice_index_or ks 0 (record { number = 0 })

-- these nodes hang under a parent from a place on, each before the next
abbrev pub lined : Slab Raw → Key → ℕ → List Key → Slab Raw
lined s up place [] = s
lined s up place (k ∷ ks) = changed (lined s up (suc place) ks) k.number (in_row (Some (up, place)) (first_key ks))
