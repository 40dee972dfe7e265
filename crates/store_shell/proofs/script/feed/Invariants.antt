use Rattle.std.proofs.Common.{◌≡◌, ◌≤◌, ℕ, List, take, Ok}
use Rattle.tree_outside.specs.Shelf.{Keeps}
use Rattle.store_core.specs.Worlds.{world}
use Rattle.store_core.specs.declared.session.SinkFailed.{SinkFailed}
use Rattle.store_shell.specs.Feeding.{Feeds}
use Rattle.store_shell.specs.Lines.{IsOneLine, kept}
use Rattle.store_shell.specs.declared.script.Flow.TheVariants as flow
use Rattle.store_shell.proofs.script.feed.Given as goal

abbrev pub invariant-loop-byte : goal.invariant-loop-byte
invariant-loop-byte g l = record {
  feeds : (part : List ℕ) → IsOneLine part → l.fn.line ≡ kept part → Feeds {E = SinkFailed} l.fn.settings part (take l.byte-index l.piece) (Ok flow.On)
      (world l.fn.session (g.F.Shelf.told l.fn.shelf) (g.F.Shelf.faults l.fn.shelf)) (world l.session (g.F.Shelf.told l.shelf) (g.F.Shelf.faults l.shelf))
      (g.K.Sink.got l.fn.sink) (g.K.Sink.got l.sink) l.line;
  later : g.K.Sink.faults l.fn.sink ≤ g.K.Sink.faults l.sink;
  shelf : g.F.Shelf.faults l.fn.shelf ≤ g.F.Shelf.faults l.shelf;
  kept : Keeps (g.K.Sink.kept l.fn.sink) (g.K.Sink.kept l.sink);
}
