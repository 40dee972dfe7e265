use Rattle.std.proofs.Common.{◌≡◌, ◌∷◌, [], ◌++◌, true, codes, ◌+◌}
use Rattle.plain_tree.specs.Tree.{trees}
use Rattle.xml_nodes.specs.Machine.{Opened, events_all}
use Rattle.record_generator.specs.Records.{records_below}
use Rattle.record_generator.proofs.records.generate.Given as goal

abbrev pub invariant-loop-number : goal.invariant-loop-number
invariant-loop-number g l = record {
  calls : g.B.Builder.log l.builder ≡ g.B.Builder.log l.fn.builder ++ (Opened (codes "records") ∷ events_all (trees (records_below l.number)) []);
  depth : g.B.Builder.depth l.builder ≡ g.B.Builder.depth l.fn.builder + 1;
  sound : g.B.Builder.sound l.builder ≡ true;
}
