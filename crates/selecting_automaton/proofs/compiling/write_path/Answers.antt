use Rattle.std.proofs.Common.{arith}
use Rattle.xpath_parser.specs.Shown.{steps_of, step_of}
use Rattle.text_list.specs.Marking.{mark_of}
use Rattle.selecting_automaton.specs.Wanting.{wanted}
use Rattle.selecting_automaton.proofs.Writing.{walks-next, walks-whole}
use Rattle.selecting_automaton.proofs.compiling.write_path.Goals as goal

pub steps-preserved : goal.steps-preserved
steps-preserved c =
    walks-next (wanted c.args.names.now (mark_of c.args.literals.now)) c.args.turns.now.items c.steps.turns.items c.write_filters.new.turns.items c.push.new.self.items c.steps.at (steps_of c.args.steps.now) (step_of c.in-Some.step.now)
    c.wanted_of.result c.in-Some.ensures c.steps.invariant c.in_ok-write_filters.ensures (c.wanted_of.ensures (mark_of c.args.literals.now)) c.in_ok-push.ensures.items

pub returns : goal.returns
returns c =
    let e = c.len-at-end.ensures in
    let h = c.steps-test.false in
    walks-whole (wanted c.args.names.now (mark_of c.args.literals.now)) c.args.turns.now.items c.steps.turns.items c.push-2.new.self.items c.steps.at (steps_of c.args.steps.now) (omega arith) c.steps.invariant c.in_ok-push-2.ensures.items
