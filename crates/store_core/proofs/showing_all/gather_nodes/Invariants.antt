use Rattle.std.proofs.Common.{◌≤◌, length}
use Rattle.plain_tree.specs.Tree.{Tree}
use Rattle.rule_runs.specs.Answering.{listed_hits}
use Rattle.rule_runs.specs.Hits.{numbers}
use Rattle.tree_outside.specs.Shelf.{Keeps}
use Rattle.store_core.specs.StoreOf.{parts_of}
use Rattle.store_core.specs.Texts.{shown_bytes}
use Rattle.store_core.specs.Walking.{IsSearching}
use Rattle.store_core.specs.Worlds.{PartsStandFor}
use Rattle.store_core.proofs.Gathering.{IsGathering}
use Rattle.store_core.proofs.showing_all.gather_nodes.Given as goal

abbrev pub invariant-hits : goal.invariant-hits
invariant-hits g l = record {
  gathering : (t : Tree) → PartsStandFor (parts_of l.store) t → IsGathering (shown_bytes t) (numbers (listed_hits l.fn.found.hits)) (g.K.Sink.got l.fn.sink) (g.K.Sink.got l.sink) (numbers l.answers) l.held.bytes.items;
  search : IsSearching l.store l.search;
  kept : Keeps (g.K.Sink.kept l.fn.sink) (g.K.Sink.kept l.sink);
  later : g.K.Sink.faults l.fn.sink ≤ g.K.Sink.faults l.sink;
}

abbrev pub decreases-hits : goal.decreases-hits
decreases-hits g l = length l.answers
