use Rattle.std.proofs.Common.{◌≡◌, ◌++◌, Some, slice_get, length}
use Rattle.fcns_encoding.specs.Sharing.{body_of, pending, AreBelow}
use Rattle.fcns_encoding.specs.declared.subterms.Cell.{Cell}
use Rattle.fcns_encoding.proofs.shared_rules.write.Given as goal

abbrev pub invariant-loop-number : goal.invariant-loop-number
invariant-loop-number l = record {
  written : (c : Cell) → slice_get l.table.cells.now l.at ≡ Some c → l.body ++ pending l.table.marks.now l.table.cells.now l.stack.items ≡ body_of l.table.marks.now l.table.cells.now c;
  below : AreBelow l.at l.stack.items;
}

abbrev pub decreases-loop-number : goal.decreases-loop-number
decreases-loop-number l = length (pending l.table.marks.now l.table.cells.now l.stack.items)
