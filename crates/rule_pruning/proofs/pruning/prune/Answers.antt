use Rattle.digram_index.proofs.Marks.{keeps-then}
use Rattle.rule_pruning.proofs.pruning.prune.Goals as goal

pub returns-clause-marks : goal.returns-clause-marks
returns-clause-marks c =
    keeps-then c.args.grammar.now.rules c.sweep.new.grammar.rules c.prune_swept.new.grammar.rules c.args.index.now c.sweep.new.index c.prune_swept.new.index c.sweep.ensures.marks c.prune_swept.ensures.marks
