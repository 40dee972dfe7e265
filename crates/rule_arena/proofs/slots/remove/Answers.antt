use Rattle.std.proofs.Common.{◌∙◌, arith, None, refl, subst, sym, ℕ}
use Rattle.slab.specs.Slab.{Updates}
use Rattle.rule_arena.proofs.SeenLemmas.{raw_some, seen-removed, len-seen, capacity-seen}
use Rattle.rule_arena.proofs.slots.remove.Goals as goal

pub remove-requires : goal.remove-requires
remove-requires c = rw c.number.ensures (raw_some c.args.slots.now c.args.key.number c.requires.there)

pub returns-clause-updates : goal.returns-clause-updates
returns-clause-updates c =
    seen-removed c.args.slots.now c.remove.new.self c.args.key.number None
    (subst (λ (j : ℕ). Updates c.args.slots.now c.remove.new.self j None) c.number.ensures c.remove.ensures.updates) c.requires.free refl

pub returns-clause-len : goal.returns-clause-len
returns-clause-len c = omega (arith, c.remove.ensures.len, len-seen c.args.slots.now, len-seen c.remove.new.self)

pub returns-clause-limit : goal.returns-clause-limit
returns-clause-limit c = capacity-seen c.remove.new.self ∙ c.remove.ensures.capacity ∙ sym (capacity-seen c.args.slots.now)

pub returns-clause-fits : goal.returns-clause-fits
returns-clause-fits c = omega (arith, c.remove.ensures.room, len-seen c.remove.new.self, capacity-seen c.remove.new.self)
