use Rattle.std.proofs.Common.{◌≤◌, length}
use Rattle.tree_outside.specs.Shelf.{Keeps}
use Rattle.rule_runs.specs.Answering.{listed_hits}
use Rattle.store_core.specs.Printed.{hit_line}
use Rattle.store_core.proofs.Gathering.{IsGathering}
use Rattle.store_core.proofs.listing.gather_hits.Given as goal

abbrev pub invariant-hits : goal.invariant-hits
invariant-hits g l = record {
  gathering : IsGathering (hit_line l.names) (listed_hits l.fn.found.hits) (g.K.Sink.got l.fn.sink) (g.K.Sink.got l.sink) l.answers l.held.items;
  kept : Keeps (g.K.Sink.kept l.fn.sink) (g.K.Sink.kept l.sink);
  later : g.K.Sink.faults l.fn.sink ≤ g.K.Sink.faults l.sink;
}

abbrev pub decreases-hits : goal.decreases-hits
decreases-hits g l = length l.answers
