use Rattle.std.proofs.Common.{◌≡◌, ◌-◌, ◌≤◌, ◌^◌, vec_len}
use Rattle.store_core.proofs.Feeds.{IsFeeding}
use Rattle.store_core.proofs.reading.feed_file.Given as goal

abbrev pub invariant-loop-fed : goal.invariant-loop-fed
invariant-loop-fed g l = record {
  feeding : IsFeeding (g.F.Shelf.told l.fn.shelf) (g.F.Shelf.told l.shelf) l.reader l.folder l.fed;
  later : g.F.Shelf.faults l.fn.shelf ≤ g.F.Shelf.faults l.shelf;
  room : vec_len l.piece ≡ 2 ^ 16;
}

abbrev pub decreases-loop-fed : goal.decreases-loop-fed
decreases-loop-fed g l = 2 ^ 30 - l.fed
