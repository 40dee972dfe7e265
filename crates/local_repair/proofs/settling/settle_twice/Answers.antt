use Rattle.digram_index.proofs.Marks.{keeps-then}
use Rattle.local_repair.proofs.Settlings.{no-larger-then, no-larger-again}
use Rattle.local_repair.proofs.settling.settle_twice.Goals as goal

pub returns-in_err-replace_twice-clause-kept : goal.returns-in_err-replace_twice-clause-kept
returns-in_err-replace_twice-clause-kept c =
    no-larger-again c.args.grammar.now.rules c.alternate.new.grammar.rules c.replace_twice.new.grammar.rules c.weight-begin.result c.patience-times.result c.in_ok-alternate.ensures.kept c.weight-begin.ensures c.patience-times.ensures
    c.in_err-replace_twice.ensures.kept

pub returns-clause-kept : goal.returns-clause-kept
returns-clause-kept c =
    no-larger-then _ _ _
    (no-larger-again c.args.grammar.now.rules c.alternate.new.grammar.rules c.replace_twice.new.grammar.rules c.weight-begin.result c.patience-times.result c.in_ok-alternate.ensures.kept c.weight-begin.ensures c.patience-times.ensures
    c.in_ok-replace_twice.ensures.kept) c.alternate-2.ensures.kept

pub returns-in_err-replace_twice-clause-marks : goal.returns-in_err-replace_twice-clause-marks
returns-in_err-replace_twice-clause-marks c =
    keeps-then c.args.grammar.now.rules c.alternate.new.grammar.rules c.replace_twice.new.grammar.rules c.args.index.now c.alternate.new.index c.replace_twice.new.index c.in_ok-alternate.ensures.marks c.in_err-replace_twice.ensures.marks

pub returns-clause-marks : goal.returns-clause-marks
returns-clause-marks c =
    keeps-then c.args.grammar.now.rules c.replace_twice.new.grammar.rules c.alternate-2.new.grammar.rules c.args.index.now c.replace_twice.new.index c.alternate-2.new.index
    (keeps-then c.args.grammar.now.rules c.alternate.new.grammar.rules c.replace_twice.new.grammar.rules c.args.index.now c.alternate.new.index c.replace_twice.new.index c.in_ok-alternate.ensures.marks c.in_ok-replace_twice.ensures.marks)
    c.alternate-2.ensures.marks
