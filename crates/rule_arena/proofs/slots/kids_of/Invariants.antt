use Rattle.std.proofs.Common.{◌≡◌, ◌-◌}
use Rattle.slab.specs.Slab.{get}
use Rattle.rule_arena.specs.Siblings.{row, step}
use Rattle.rule_arena.proofs.slots.kids_of.Given as goal

abbrev pub invariant-loop-i : goal.invariant-loop-i
invariant-loop-i l = record {
  kids : l.kids ≡ row (get l.slots) l._i l.cell.first;
  last : l.at ≡ step (get l.slots) (l._i - 1) l.cell.first;
}
