use Rattle.std.proofs.Common.{◌∙◌, arith}
use Rattle.digram_index.proofs.Marks.{keeps-then}
use Rattle.rule_pruning.proofs.dissolving.dissolve.Goals as goal

pub returns-in_err-dissolve_up_to-clause-marks : goal.returns-in_err-dissolve_up_to-clause-marks
returns-in_err-dissolve_up_to-clause-marks c =
    keeps-then c.args.grammar.now.rules c.loop.grammar.rules c.dissolve_up_to.new.grammar.rules c.args.index.now c.loop.index c.dissolve_up_to.new.index c.loop.invariant.marks c.in_err-dissolve_up_to.ensures.marks

pub loop-preserved : goal.loop-preserved
loop-preserved c =
    let E = c.in_ok-dissolve_up_to.ensures in
    let W = c.loop.invariant.without in
    record {
      without = record { swept = E.swept; value = E.value ∙ W.value; ranks = omega (arith, E.ranks, W.ranks) };
      index = E.index;
      marks = keeps-then c.args.grammar.now.rules c.loop.grammar.rules c.dissolve_up_to.new.grammar.rules c.args.index.now c.loop.index c.dissolve_up_to.new.index c.loop.invariant.marks E.marks;
    }
