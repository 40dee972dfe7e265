use Rattle.std.proofs.Common.{◌≡◌}
use Rattle.slab.specs.Slab.{get}
use Rattle.rule_arena.specs.Siblings.{step}
use Rattle.rule_arena.proofs.slots.sibling_after.Given as goal

abbrev pub invariant-loop-i : goal.invariant-loop-i
invariant-loop-i l = l.at ≡ step (get l.slots) l._i l.fn.first
