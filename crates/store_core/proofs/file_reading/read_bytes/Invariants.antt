use Rattle.std.proofs.Common.{◌-◌, ◌≤◌, ◌^◌, length}
use Rattle.tree_outside.specs.Shelf.{TakesFile}
use Rattle.store_core.proofs.file_reading.read_bytes.Given as goal

abbrev pub invariant-loop-piece : goal.invariant-loop-piece
invariant-loop-piece g l = record {
  taken : TakesFile (g.F.Shelf.told l.fn.shelf) (g.F.Shelf.told l.shelf) l.bytes.items;
  later : g.F.Shelf.faults l.fn.shelf ≤ g.F.Shelf.faults l.shelf;
}

abbrev pub decreases-loop-piece : goal.decreases-loop-piece
decreases-loop-piece g l = 2 ^ 30 - length l.bytes.items
