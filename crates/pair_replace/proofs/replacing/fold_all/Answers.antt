use Rattle.std.proofs.Common.{arith}
use Rattle.digram_index.proofs.Marks.{keeps-then}
use Rattle.pair_replace.proofs.Counts.{none-linked}
use Rattle.pair_replace.proofs.Rounds.{apart-ends, apart-more, turns-end}
use Rattle.pair_replace.proofs.replacing.fold_all.Goals as goal

pub loop-next-preserved : goal.loop-next-preserved
loop-next-preserved c =
    let I = c.loop-next.invariant in
    let N = c.in_ok-next.ensures in
    record {
      round = N.round c.args.grammar.now I.round;
      left = λ d. let a = N.fewer d in let b = I.left d in omega (arith, a, b);
      apart = apart-more c.args.index.now c.loop-next.index c.fold_next.new.index c.args.digram c.loop-next.count I.apart N.apart;
      turn = N.turn;
      marks = keeps-then c.args.grammar.now.rules c.loop-next.grammar.rules c.fold_next.new.grammar.rules c.args.index.now c.loop-next.index c.fold_next.new.index I.marks c.fold_next.ensures.marks;
    }

pub returns-clause-count : goal.returns-clause-count
returns-clause-count c =
    apart-ends c.args.index.now c.loop-next.index c.args.digram c.loop-next.count c.loop-next.invariant.apart (turns-end c.loop-next.index c.args.digram c.loop-next.next c.loop-next.invariant.turn c.in_default.is)

pub returns-clause-called : goal.returns-clause-called
returns-clause-called c =
    let t = c.requires.two in
    let n = returns-clause-count c t.0 t.1.0 in
    let m = t.1.1 in
    let r = c.loop-next.invariant.round.called in
    omega (arith, n, m, r)

pub returns-clause-differ : goal.returns-clause-differ
returns-clause-differ c = λ d.
    let n = none-linked c.loop-next.index c.args.digram (turns-end c.loop-next.index c.args.digram c.loop-next.next c.loop-next.invariant.turn c.in_default.is) in
    let l = c.loop-next.invariant.left d in
    omega (arith, n, l)

pub returns-clause-none : goal.returns-clause-none
returns-clause-none c = turns-end c.loop-next.index c.args.digram c.loop-next.next c.loop-next.invariant.turn c.in_default.is

pub returns-in_err-next-clause-marks : goal.returns-in_err-next-clause-marks
returns-in_err-next-clause-marks c =
    keeps-then c.args.grammar.now.rules c.loop-next.grammar.rules c.fold_next.new.grammar.rules c.args.index.now c.loop-next.index c.fold_next.new.index c.loop-next.invariant.marks c.fold_next.ensures.marks

pub returns-clause-marks : goal.returns-clause-marks
returns-clause-marks c = c.loop-next.invariant.marks
