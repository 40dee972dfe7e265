use Rattle.std.proofs.Common.{refl, arith}
use Rattle.slt_grammar.specs.Grammars.{calls_of}
use Rattle.slt_grammar.specs.Keyed.{rules_of}
use Rattle.digram_index.proofs.Marks.{keeps-still, keeps-then}
use Rattle.rule_pruning.proofs.Taken.{IsTaken, taken}
use Rattle.rule_pruning.proofs.pruning.take_away.Goals as goal

is_taken : (c : goal.After-drop_linked) → IsTaken c.args.grammar.now.rules c.drop_linked.new.grammar.rules c.args.rule
is_taken c =
    let E = rw c.in_ok-make_room.ensures.rules at c.inline_calls.ensures in
    taken c.args.grammar.now.rules c.inline_calls.new.grammar c.limit-inlined.ensures.keyed c.args.rule (calls_of (rules_of c.args.grammar.now.rules) c.args.rule)
    (record { rules = E.rules; ranks = E.ranks; uncalled = E.uncalled; before = E.before; called = E.called; values = E.values; size = E.size }) c.requires.there refl c.requires.swept c.drop_linked.new.grammar.rules c.drop_linked.ensures.rules c.drop_linked.ensures.size

pub returns-clause-rules : goal.returns-clause-rules
returns-clause-rules c = (is_taken c).rules

pub returns-clause-swept : goal.returns-clause-swept
returns-clause-swept c = (is_taken c).swept

pub returns-clause-save : goal.returns-clause-save
returns-clause-save c = (is_taken c).save

pub returns-clause-size : goal.returns-clause-size
returns-clause-size c = (is_taken c).size

pub returns-clause-fewer : goal.returns-clause-fewer
returns-clause-fewer c = let r = (is_taken c).rules in omega (arith, r)

pub returns-clause-ranks : goal.returns-clause-ranks
returns-clause-ranks c = (is_taken c).ranks

pub returns-clause-marks : goal.returns-clause-marks
returns-clause-marks c =
    let M = rw c.in_ok-make_room.ensures.rules at c.inline_calls.ensures.marks in
    keeps-then c.args.grammar.now.rules c.args.grammar.now.rules c.drop_linked.new.grammar.rules c.args.index.now c.make_room.new.index c.drop_linked.new.index
    (keeps-still c.args.grammar.now.rules c.args.index.now c.make_room.new.index c.in_ok-make_room.ensures.marks)
    (keeps-then c.args.grammar.now.rules c.inline_calls.new.grammar.rules c.drop_linked.new.grammar.rules c.make_room.new.index c.inline_calls.new.index c.drop_linked.new.index M c.drop_linked.ensures.marks)
