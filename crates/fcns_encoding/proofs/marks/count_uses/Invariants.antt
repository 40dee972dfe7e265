use Rattle.std.proofs.Common.{take}
use Rattle.fcns_encoding.specs.Marks.{used_by, AreCounted}
use Rattle.fcns_encoding.proofs.marks.count_uses.Given as goal

abbrev pub invariant-loop-cell : goal.invariant-loop-cell
invariant-loop-cell l = AreCounted (used_by (take l.cell-index l.cells)) l.uses
