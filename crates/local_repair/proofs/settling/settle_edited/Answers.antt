use Rattle.digram_index.proofs.Marks.{keeps-then}
use Rattle.local_repair.proofs.Settlings.{no-larger-then}
use Rattle.local_repair.proofs.settling.settle_edited.Goals as goal

pub returns-clause-kept : goal.returns-clause-kept
returns-clause-kept c = no-larger-then _ _ _ c.in_ok-reuse_rules.ensures.kept c.settle_touched.ensures.kept

pub returns-clause-marks : goal.returns-clause-marks
returns-clause-marks c =
    keeps-then c.args.grammar.now.rules c.reuse_rules.new.grammar.rules c.settle_touched.new.grammar.rules c.args.index.now c.reuse_rules.new.index c.settle_touched.new.index c.in_ok-reuse_rules.ensures.marks c.settle_touched.ensures.marks
