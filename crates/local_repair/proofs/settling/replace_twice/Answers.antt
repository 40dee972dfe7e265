use Rattle.std.proofs.Common.{arith}
use Rattle.digram_index.proofs.Marks.{keeps-then}
use Rattle.local_repair.proofs.Settlings.{larger-then, larger-within, larger-replaced, larger-refused}
use Rattle.local_repair.proofs.settling.replace_twice.Goals as goal

pub loop-done-preserved : goal.loop-done-preserved
loop-done-preserved c =
    let R = c.in_ok-replace.ensures in
    record {
      kept = larger-then _ _ _ _ c.loop-done.invariant.kept (larger-replaced _ _ R.value R.swept _ R.count R.rules R.size);
      ranks = omega (arith, c.loop-done.invariant.ranks, c.in-Some.ensures.within, R.ranks);
      index = R.index;
      marks = keeps-then c.args.grammar.now.rules c.loop-done.grammar.rules c.replace.new.grammar.rules c.args.index.now c.loop-done.index c.replace.new.index c.loop-done.invariant.marks R.marks;
    }

pub returns-in_err-replace-clause-kept : goal.returns-in_err-replace-clause-kept
returns-in_err-replace-clause-kept c =
    let R = c.in_err-replace.ensures in
    larger-within _ _ _ _ (omega arith) (larger-then _ _ _ _ c.loop-done.invariant.kept (larger-refused _ _ R.value R.swept R.refused R.refused_rules))

pub returns-in_err-replace-clause-ranks : goal.returns-in_err-replace-clause-ranks
returns-in_err-replace-clause-ranks c = omega (arith, c.loop-done.invariant.ranks, c.in-Some.ensures.within, c.in_err-replace.ensures.ranks)

pub returns-in_err-replace-clause-marks : goal.returns-in_err-replace-clause-marks
returns-in_err-replace-clause-marks c =
    keeps-then c.args.grammar.now.rules c.loop-done.grammar.rules c.replace.new.grammar.rules c.args.index.now c.loop-done.index c.replace.new.index c.loop-done.invariant.marks c.in_err-replace.ensures.marks
