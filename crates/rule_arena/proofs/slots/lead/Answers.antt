use Rattle.std.proofs.Common.{◌≡◌, ◌-◌, ◌<◌, ℕ, IsSome, IfSome, arith, sym, subst, Option}
use Rattle.slab.specs.Slab.{get}
use Rattle.rule_arena.specs.Linked.{Raw}
use Rattle.rule_arena.specs.Siblings.{seen, step}
use Rattle.rule_arena.specs.declared.key.Key.{Key}
use Rattle.rule_arena.proofs.SeenLemmas.{raw_some}
use Rattle.rule_arena.proofs.slots.lead.Goals as goal

pub set_first-requires : goal.set_first-requires
set_first-requires c =
    raw_some c.args.slots.now c.args.key.number c.requires.there

pub set_next-requires : goal.set_next-requires
set_next-requires c =
    let h = subst (λ (o : Option Raw). IfSome o (λ r. (i : ℕ) → i < c.args.at → IsSome (get (seen c.args.slots.now) (step (get c.args.slots.now) i r.first).number))) c.cell_of.ensures.raw c.requires.before in
    let k : c.sibling_after-before.result ≡ step (get c.args.slots.now) (c.args.at - 1) c.cell_of.result.now.first = rw (← c.first-first.ensures) c.sibling_after-before.ensures in
    raw_some c.args.slots.now c.sibling_after-before.result.number
    (subst (λ (x : Key). IsSome (get (seen c.args.slots.now) x.number)) (sym k) (h (c.args.at - 1) (omega arith)))
