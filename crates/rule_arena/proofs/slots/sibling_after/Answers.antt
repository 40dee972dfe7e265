use Rattle.std.proofs.Common.{◌∙◌, subst, sym, IsSome}
use Rattle.slab.specs.Slab.{get}
use Rattle.rule_arena.specs.Siblings.{seen}
use Rattle.rule_arena.specs.declared.key.Key.{Key}
use Rattle.rule_arena.proofs.SeenLemmas.{step-next}
use Rattle.rule_arena.proofs.slots.sibling_after.Goals as goal

pub cell_of-requires : goal.cell_of-requires
cell_of-requires c = subst (λ (k : Key). IsSome (get (seen c.args.slots.now) k.number)) (sym c.loop-i.invariant) (c.requires c.loop-i._i c.loop-i-test.true)

pub loop-i-preserved : goal.loop-i-preserved
loop-i-preserved c = c.next-at.ensures ∙ step-next c.args.slots.now c.loop-i._i c.args.first c.loop-i.at c.cell_of.result.now c.loop-i.invariant c.cell_of.ensures.raw
