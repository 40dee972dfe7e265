use Rattle.std.proofs.Common.{◌∙◌}
use Rattle.digram_index.proofs.Marks.{keeps-then}
use Rattle.digram_index.proofs.StartMarked.{starts-kept}
use Rattle.local_repair.proofs.Settlings.{no-larger-then}
use Rattle.local_repair.proofs.reusing.reuse_rules.Goals as goal
use Rattle.local_repair.proofs.reusing.reuse_rules.Goals.{then-is_linked+in_ok-reuse_at, else-is_linked}

pub reuse_at-requires-clause-marked : goal.reuse_at-requires-clause-marked
reuse_at-requires-clause-marked c =
    rw c.take_touched.ensures (starts-kept c.args.grammar.now.rules c.loop.grammar.rules c.args.index.now c.loop.index c.loop.invariant.marks c.requires.marked)

pub returns-in_err-reuse_at-clause-marks : goal.returns-in_err-reuse_at-clause-marks
returns-in_err-reuse_at-clause-marks c =
    keeps-then c.args.grammar.now.rules c.loop.grammar.rules c.reuse_at.new.grammar.rules c.args.index.now c.loop.index c.reuse_at.new.index c.loop.invariant.marks (rw c.take_touched.ensures at c.in_err-reuse_at.ensures.marks)

pub loop-preserved : goal.loop-preserved
loop-preserved c =
    let I = c.loop.invariant in
    elim c.if-is_linked.branch [
      | then-is_linked+in_ok-reuse_at w ↦
          let R = w.in_ok-reuse_at.ensures in
          rw (w.grammar-is, w.index-is) (record {
            kept = no-larger-then _ _ _ I.kept R.kept;
            ranks = R.ranks ∙ I.ranks;
            index = R.index;
            marks = keeps-then c.args.grammar.now.rules c.loop.grammar.rules w.reuse_at.new.grammar.rules c.args.index.now c.loop.index w.reuse_at.new.index I.marks (rw c.take_touched.ensures at R.marks);
          })
      | else-is_linked w ↦ rw (w.grammar-is, w.index-is, c.take_touched.ensures) (record { kept = I.kept; ranks = I.ranks; index = I.index; marks = I.marks })
    ]
