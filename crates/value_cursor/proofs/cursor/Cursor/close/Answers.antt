use Rattle.std.proofs.Common.{[], ◌++◌, ap, arith, sum_by}
use Rattle.segment_counts.specs.Weights.{node_weight}
use Rattle.value_cursor.specs.Kept.{labels_of}
use Rattle.value_cursor.proofs.Telling.{stops-alone}
use Rattle.value_cursor.proofs.cursor.Cursor.close.Goals as goal

pub returns-else-self-gt1-clause-inside : goal.returns-else-self-gt1-clause-inside
returns-else-self-gt1-clause-inside c G i = record {
  standing = record {
    stops = stops-alone G c.args.self.now.calls.items c.args.self.now.here i.standing.stops;
    room = i.standing.room;
    kept = c.forget.ensures.kept G i.standing.kept;
  };
  few = omega (arith, i.few, ap (λ ts. sum_by node_weight (labels_of ts ++ [])) c.forget.ensures.again);
}
