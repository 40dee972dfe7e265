use Rattle.std.proofs.Common.{◌<◌, ◌∙◌, List, sym, ap, subst, Some, Option, ℕ, arith}
use Rattle.slab.specs.Slab.{get}
use Rattle.rule_arena.specs.Siblings.{after, linked, seen}
use Rattle.rule_arena.specs.Slots.{terms_of}
use Rattle.rule_arena.specs.Terms.{Node, key_in}
use Rattle.rule_arena.specs.declared.key.Key.{Key}
use Rattle.rule_arena.proofs.CellLemmas.{has}
use Rattle.rule_arena.proofs.Climbs.{height, past-is, same_back, begins, above, found, goes_on, falls, ended}
use Rattle.rule_arena.proofs.SiblingClimbs.{ClimbsBy, next_child, none_past}
use Rattle.rule_arena.proofs.Told.{told}
use Rattle.rule_arena.proofs.arena.Arena.past_term.Goals as goal

pub cell_of-here-requires : goal.cell_of-here-requires
cell_of-here-requires c =
    let t = told (seen c.self.inside.slots) c.self.inside.standing c.args.self.now c.self.view_is c.args.key c.requires in
    has _ t.cell t.slot

pub loop-at-init : goal.loop-at-init
loop-at-init c =
    subst (λ (o : Option (Key × ℕ)). ClimbsBy c.self.inside.slots c.self.inside.standing c.args.key o c.next-next.result) (sym c.parent-at.ensures.value) (
      begins (seen c.self.inside.slots) c.self.inside.standing c.args.self.now c.self.view_is c.args.key c.requires (linked (get c.self.inside.slots) c.cell_of-here.result.now) c.cell_of-here.ensures.cell,
      c.next-next.ensures ∙ sym (ap after c.cell_of-here.ensures.raw),
    )

pub cell_of-above-requires : goal.cell_of-above-requires
cell_of-above-requires c =
    let C = subst (λ (o : Option (Key × ℕ)). ClimbsBy c.self.inside.slots c.self.inside.standing c.args.key o c.loop-at.next) c.in-Some.is c.loop-at.invariant in
    let U = above (seen c.self.inside.slots) c.self.inside.standing c.args.key c.in-Some.link.0 c.in-Some.link.1 C.0 in
    has _ U.cell U.slot

pub returns-then-place-count : goal.returns-then-place-count
returns-then-place-count c =
    λ x.
    let C = subst (λ (o : Option (Key × ℕ)). ClimbsBy c.self.inside.slots c.self.inside.standing c.args.key o c.loop-at.next) c.in-Some.is c.loop-at.invariant in
    past-is x.nodes x.place ∙ ap (λ (ms : List Node). key_in ms 0) (same_back (seen c.self.inside.slots) c.self.inside.standing c.args.self.now c.self.view_is c.args.key x C.0.root C.0.nodes C.0.place C.0.stands C.0.there)
    ∙ found (seen c.self.inside.slots) c.self.inside.standing c.args.key c.in-Some.link.0 c.in-Some.link.1 C.0 (linked (get c.self.inside.slots) c.cell_of-above.result.now) c.loop-at.next c.cell_of-above.ensures.cell
    (next_child c.self.inside.slots c.self.inside.standing c.args.key c.in-Some.link.0 c.in-Some.link.1 c.loop-at.next C c.cell_of-above.result.now c.cell_of-above.ensures.raw (omega (arith, c.if-place-count.true, c.count.ensures.value)))

pub loop-at-smaller : goal.loop-at-smaller
loop-at-smaller c =
    let C = subst (λ (o : Option (Key × ℕ)). ClimbsBy c.self.inside.slots c.self.inside.standing c.args.key o c.loop-at.next) c.in-Some.is c.loop-at.invariant in
    let h : Option (Key × ℕ) → ℕ = height (terms_of (seen c.self.inside.slots) c.self.inside.standing) in
    let f = falls (seen c.self.inside.slots) c.self.inside.standing c.args.key c.in-Some.link.0 c.in-Some.link.1 C.0 (linked (get c.self.inside.slots) c.cell_of-above.result.now) c.cell_of-above.ensures.cell in
    subst (λ (o : Option (Key × ℕ)). h c.parent-at-in-Some.result < h o) (sym c.in-Some.is)
    (subst (λ (o : Option (Key × ℕ)). h o < h (Some (c.in-Some.link.0, c.in-Some.link.1))) (sym c.parent-at-in-Some.ensures.value) f)

pub loop-at-preserved : goal.loop-at-preserved
loop-at-preserved c =
    let C = subst (λ (o : Option (Key × ℕ)). ClimbsBy c.self.inside.slots c.self.inside.standing c.args.key o c.loop-at.next) c.in-Some.is c.loop-at.invariant in
    subst (λ (o : Option (Key × ℕ)). ClimbsBy c.self.inside.slots c.self.inside.standing c.args.key o c.next-next-in-Some.result) (sym c.parent-at-in-Some.ensures.value) (
      goes_on (seen c.self.inside.slots) c.self.inside.standing c.args.key c.in-Some.link.0 c.in-Some.link.1 C.0 (linked (get c.self.inside.slots) c.cell_of-above.result.now) c.cell_of-above.ensures.cell
          (none_past c.self.inside.slots c.cell_of-above.result.now c.in-Some.link.1 (omega (arith, c.if-place-count.false, c.count.ensures.value))),
      c.next-next-in-Some.ensures ∙ sym (ap after c.cell_of-above.ensures.raw),
    )

pub returns : goal.returns
returns c =
    λ x.
    let C = subst (λ (o : Option (Key × ℕ)). ClimbsBy c.self.inside.slots c.self.inside.standing c.args.key o c.loop-at.next) c.in_default.is c.loop-at.invariant in
    past-is x.nodes x.place ∙ ap (λ (ms : List Node). key_in ms 0) (same_back (seen c.self.inside.slots) c.self.inside.standing c.args.self.now c.self.view_is c.args.key x C.0.root C.0.nodes C.0.place C.0.stands C.0.there)
    ∙ ended (seen c.self.inside.slots) c.self.inside.standing c.args.key C.0
