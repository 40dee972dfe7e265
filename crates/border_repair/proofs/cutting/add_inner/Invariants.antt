use Rattle.std.proofs.Common.{◌≡◌, ◌≤◌, reverse, false}
use Rattle.border_repair.specs.Sizes.{free}
use Rattle.border_repair.proofs.CutSteps.{AreTaken}
use Rattle.border_repair.proofs.cutting.add_inner.Given as goal

abbrev pub invariant-kids : goal.invariant-kids
invariant-kids l = record {
  taken : AreTaken (reverse l.initial.cutter.marks.items) (reverse l.initial.cutter.parts.items) (reverse l.initial.cutter.args.items) l.kids l.left (reverse l.cutter.marks.items) l.mark.part l.mark.args;
  parts : l.cutter.parts.items ≡ l.initial.cutter.parts.items;
  args : l.cutter.args.items ≡ l.initial.cutter.args.items;
  inner : l.mark.bare ≡ false;
  top : l.mark.top ≡ l.label;
  few : free (reverse l.cutter.marks.items) ≤ free (reverse l.initial.cutter.marks.items);
}

abbrev pub decreases-kids : goal.decreases-kids
decreases-kids l = l.left
