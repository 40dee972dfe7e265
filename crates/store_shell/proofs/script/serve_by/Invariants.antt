use Rattle.std.proofs.Common.{◌≡◌, ◌≤◌, ◌-◌, ℕ, List, [], length, Ok}
use Rattle.tree_outside.specs.Outside.{Takes}
use Rattle.tree_outside.specs.Shelf.{Keeps}
use Rattle.store_core.specs.Worlds.{world}
use Rattle.store_core.specs.declared.session.SinkFailed.{SinkFailed}
use Rattle.store_shell.specs.Feeding.{Feeds}
use Rattle.store_shell.specs.declared.script.Flow.TheVariants as flow
use Rattle.store_shell.proofs.script.serve_by.Given as goal

abbrev pub invariant-loop-taken : goal.invariant-loop-taken
invariant-loop-taken g l = record {
  within : l.taken ≤ 1073741824;
  bytes : List ℕ;
  taken : Takes (g.S.Source.left l.fn.source) (g.S.Source.left l.source) bytes;
  count : length bytes ≡ l.taken;
  fed : Feeds {E = SinkFailed} l.fn.settings [] bytes (Ok flow.On)
      (world l.fn.session (g.F.Shelf.told l.fn.shelf) (g.F.Shelf.faults l.fn.shelf)) (world l.session (g.F.Shelf.told l.shelf) (g.F.Shelf.faults l.shelf))
      (g.K.Sink.got l.fn.sink) (g.K.Sink.got l.sink) l.line;
  source : g.S.Source.faults l.fn.source ≤ g.S.Source.faults l.source;
  sink : g.K.Sink.faults l.fn.sink ≤ g.K.Sink.faults l.sink;
  shelf : g.F.Shelf.faults l.fn.shelf ≤ g.F.Shelf.faults l.shelf;
  kept : Keeps (g.K.Sink.kept l.fn.sink) (g.K.Sink.kept l.sink);
}

abbrev pub decreases-loop-taken : goal.decreases-loop-taken
decreases-loop-taken g l = 1073741824 - l.taken
