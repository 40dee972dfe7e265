-- The climb to what follows a term by the links between siblings.
use Rattle.std.proofs.Common.{◌≡◌, ℕ, suc, ◌-◌, ◌<◌, ◌≤◌, Option, Some, None, slice_get, sym, ap, ◌∙◌, arith}
use Rattle.slab.specs.Slab.{Slab, get}
use Rattle.rule_arena.specs.Linked.{Raw}
use Rattle.rule_arena.specs.Siblings.{after, row, step, linked, seen}
use Rattle.rule_arena.specs.Slots.{Standing}
use Rattle.rule_arena.specs.declared.key.Key.{Key}
use Rattle.rule_arena.proofs.Climbs.{Climbs, comes_from}
use Rattle.rule_arena.proofs.ListLemmas.{get-past}
use Rattle.rule_arena.proofs.SeenLemmas.{length-row, get-row, row-follows, seen-some}

-- what follows the subterm of a node follows that of another, whose parent and next sibling are these
abbrev pub ClimbsBy : (slots : Slab Raw) (s : Standing (seen slots)) (key : Key) (up : Option (Key × ℕ)) (next : Key) → Type 0
ClimbsBy slots s key up next = (C : Climbs (seen slots) s key up) × (next ≡ after (get slots C.current.number))

-- the next sibling is the parent's next child
pub next_child : (slots : Slab Raw) (s : Standing (seen slots)) (key up : Key) (place : ℕ) (next : Key) (C : ClimbsBy slots s key (Some (up, place)) next) (r : Raw) → get slots up.number ≡ Some r → place < r.count → slice_get (row (get slots) r.count r.first) place ≡ Some next
next_child slots s key up place next C r e h =
    let f = comes_from (seen slots) s key up place C.0 (linked (get slots) r) (seen-some slots up.number r e) in
    let y : Key = step (get slots) place r.first in
    let g : slice_get (row (get slots) r.count r.first) place ≡ Some y = get-row (get slots) r.count r.first place h in
    let z : suc (place - 1) ≡ place = omega (arith, f.0) in
    let n : after (get slots C.0.current.number) ≡ y = row-follows (get slots) r.count r.first (place - 1) C.0.current y f.1 (ap (λ (j : ℕ). slice_get (row (get slots) r.count r.first) j) z ∙ g) in
    g ∙ ap Some (sym (C.1 ∙ n))

-- there is no child past the last
pub none_past : (slots : Slab Raw) (r : Raw) (place : ℕ) → r.count ≤ place → slice_get (row (get slots) r.count r.first) place ≡ None
none_past slots r place h = get-past (row (get slots) r.count r.first) place (omega (arith, h, length-row (get slots) r.count r.first))
