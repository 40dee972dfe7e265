use Rattle.std.proofs.Common.{arith}
use Rattle.digram_index.proofs.Marks.{keeps-then}
use Rattle.local_repair.proofs.Settlings.{no-larger-then, no-larger-replaced, no-larger-both, no-larger-pruned}
use Rattle.local_repair.proofs.settling.alternate.Goals as goal

pub loop-digram-init : goal.loop-digram-init
loop-digram-init c =
    let P = c.in_ok-prune.ensures in
    record {
      swept = P.swept;
      save = P.save;
      kept = no-larger-pruned _ _ P.value P.stays P.size P.rules;
      ranks = omega (arith, P.ranks);
      index = P.index;
      marks = P.marks;
    }

pub returns-in_err-replace-clause-kept : goal.returns-in_err-replace-clause-kept
returns-in_err-replace-clause-kept c =
    let R = c.in_err-replace.ensures in
    no-larger-then _ _ _ c.loop-digram.invariant.kept (no-larger-both _ _ R.value R.swept R.refused R.refused_rules)

pub returns-in_err-replace_all-clause-kept : goal.returns-in_err-replace_all-clause-kept
returns-in_err-replace_all-clause-kept c =
    let R = c.in_ok-replace.ensures in
    no-larger-then _ _ _ (no-larger-then _ _ _ c.loop-digram.invariant.kept (no-larger-replaced _ _ R.value R.swept _ (R.three c.in-Some.ensures.three) R.rules R.size)) c.in_err-replace_all.ensures.kept

pub loop-digram-preserved : goal.loop-digram-preserved
loop-digram-preserved c =
    let R = c.in_ok-replace.ensures in
    let A = c.in_ok-replace_all.ensures in
    let P = c.in_ok-prune-2.ensures in
    record {
      swept = P.swept;
      save = P.save;
      kept = no-larger-then _ _ _ (no-larger-then _ _ _ (no-larger-then _ _ _ c.loop-digram.invariant.kept (no-larger-replaced _ _ R.value R.swept _ (R.three c.in-Some.ensures.three) R.rules R.size)) A.kept) (no-larger-pruned _ _ P.value P.stays P.size P.rules);
      ranks = omega (arith, c.loop-digram.invariant.ranks, c.in-Some.ensures.within, R.ranks, A.ranks, P.ranks);
      index = P.index;
      marks =
          keeps-then c.args.grammar.now.rules c.replace_all.new.grammar.rules c.prune-in-Some.new.grammar.rules c.args.index.now c.replace_all.new.index c.prune-in-Some.new.index
          (keeps-then c.args.grammar.now.rules c.replace.new.grammar.rules c.replace_all.new.grammar.rules c.args.index.now c.replace.new.index c.replace_all.new.index (keeps-then c.args.grammar.now.rules c.loop-digram.grammar.rules c.replace.new.grammar.rules c.args.index.now c.loop-digram.index c.replace.new.index c.loop-digram.invariant.marks c.in_ok-replace.ensures.marks) A.marks)
          P.marks;
    }

pub returns-in_err-prune-2-clause-kept : goal.returns-in_err-prune-2-clause-kept
returns-in_err-prune-2-clause-kept c =
    let R = c.in_ok-replace.ensures in
    let A = c.in_ok-replace_all.ensures in
    let P = c.in_err-prune-2.ensures in
    no-larger-then _ _ _ (no-larger-then _ _ _ (no-larger-then _ _ _ c.loop-digram.invariant.kept (no-larger-replaced _ _ R.value R.swept _ (R.three c.in-Some.ensures.three) R.rules R.size)) A.kept) (no-larger-pruned _ _ P.value P.stays P.size P.rules)

pub returns-in_err-replace-clause-ranks : goal.returns-in_err-replace-clause-ranks
returns-in_err-replace-clause-ranks c = omega (arith, c.loop-digram.invariant.ranks, c.in-Some.ensures.within, c.in_err-replace.ensures.ranks)

pub returns-in_err-replace_all-clause-ranks : goal.returns-in_err-replace_all-clause-ranks
returns-in_err-replace_all-clause-ranks c =
    omega (arith, c.loop-digram.invariant.ranks, c.in-Some.ensures.within, c.in_ok-replace.ensures.ranks, c.in_err-replace_all.ensures.ranks)

pub returns-in_err-prune-2-clause-ranks : goal.returns-in_err-prune-2-clause-ranks
returns-in_err-prune-2-clause-ranks c =
    omega (arith, c.loop-digram.invariant.ranks, c.in-Some.ensures.within, c.in_ok-replace.ensures.ranks, c.in_ok-replace_all.ensures.ranks, c.in_err-prune-2.ensures.ranks)

pub returns-in_err-replace-clause-marks : goal.returns-in_err-replace-clause-marks
returns-in_err-replace-clause-marks c =
    keeps-then c.args.grammar.now.rules c.loop-digram.grammar.rules c.replace.new.grammar.rules c.args.index.now c.loop-digram.index c.replace.new.index c.loop-digram.invariant.marks c.in_err-replace.ensures.marks

pub returns-in_err-replace_all-clause-marks : goal.returns-in_err-replace_all-clause-marks
returns-in_err-replace_all-clause-marks c =
    keeps-then c.args.grammar.now.rules c.replace.new.grammar.rules c.replace_all.new.grammar.rules c.args.index.now c.replace.new.index c.replace_all.new.index
    (keeps-then c.args.grammar.now.rules c.loop-digram.grammar.rules c.replace.new.grammar.rules c.args.index.now c.loop-digram.index c.replace.new.index c.loop-digram.invariant.marks c.in_ok-replace.ensures.marks)
    c.in_err-replace_all.ensures.marks

pub returns-in_err-prune-2-clause-marks : goal.returns-in_err-prune-2-clause-marks
returns-in_err-prune-2-clause-marks c =
    keeps-then c.args.grammar.now.rules c.replace_all.new.grammar.rules c.prune-in-Some.new.grammar.rules c.args.index.now c.replace_all.new.index c.prune-in-Some.new.index
    (keeps-then c.args.grammar.now.rules c.replace.new.grammar.rules c.replace_all.new.grammar.rules c.args.index.now c.replace.new.index c.replace_all.new.index (keeps-then c.args.grammar.now.rules c.loop-digram.grammar.rules c.replace.new.grammar.rules c.args.index.now c.loop-digram.index c.replace.new.index c.loop-digram.invariant.marks c.in_ok-replace.ensures.marks) c.in_ok-replace_all.ensures.marks)
    c.in_err-prune-2.ensures.marks
