use Rattle.std.proofs.Common.{◌≡◌, ◌+◌, drop}
use Rattle.rule_arena.specs.Linking.{lined, first_key}
use Rattle.rule_arena.proofs.slots.line_up.Given as goal

abbrev pub invariant-loop-i : goal.invariant-loop-i
invariant-loop-i l = record {
  slots : l.slots ≡ lined l.fn.slots l.fn.up (l.i + 1) (drop l.i l.kids);
  first : l.next ≡ first_key (drop l.i l.kids);
}
