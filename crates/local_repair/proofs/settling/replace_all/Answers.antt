use Rattle.std.proofs.Common.{arith}
use Rattle.digram_index.proofs.Marks.{keeps-then}
use Rattle.local_repair.proofs.Settlings.{no-larger-then, no-larger-replaced, no-larger-both}
use Rattle.local_repair.proofs.settling.replace_all.Goals as goal

pub loop-digram-preserved : goal.loop-digram-preserved
loop-digram-preserved c =
    let R = c.in_ok-replace.ensures in
    record {
      kept = no-larger-then _ _ _ c.loop-digram.invariant.kept (no-larger-replaced _ _ R.value R.swept _ (R.three c.in-Some.ensures.three) R.rules R.size);
      ranks = omega (arith, c.loop-digram.invariant.ranks, c.in-Some.ensures.within, R.ranks);
      index = R.index;
      marks = keeps-then c.args.grammar.now.rules c.loop-digram.grammar.rules c.replace.new.grammar.rules c.args.index.now c.loop-digram.index c.replace.new.index c.loop-digram.invariant.marks R.marks;
    }

pub returns-in_err-replace-clause-kept : goal.returns-in_err-replace-clause-kept
returns-in_err-replace-clause-kept c =
    let R = c.in_err-replace.ensures in
    no-larger-then _ _ _ c.loop-digram.invariant.kept (no-larger-both _ _ R.value R.swept R.refused R.refused_rules)

pub returns-in_err-replace-clause-ranks : goal.returns-in_err-replace-clause-ranks
returns-in_err-replace-clause-ranks c = omega (arith, c.loop-digram.invariant.ranks, c.in-Some.ensures.within, c.in_err-replace.ensures.ranks)

pub returns-in_err-replace-clause-marks : goal.returns-in_err-replace-clause-marks
returns-in_err-replace-clause-marks c =
    keeps-then c.args.grammar.now.rules c.loop-digram.grammar.rules c.replace.new.grammar.rules c.args.index.now c.loop-digram.index c.replace.new.index c.loop-digram.invariant.marks c.in_err-replace.ensures.marks
