use Rattle.std.proofs.Common.{arith}
use Rattle.xpath_parser.specs.Shown.{paths_of}
use Rattle.text_list.specs.Marking.{mark_of}
use Rattle.selecting_automaton.specs.Wanting.{wanted}
use Rattle.selecting_automaton.proofs.Writing.{paths-next, paths-whole}
use Rattle.selecting_automaton.proofs.compiling.write_paths.Goals as goal

pub paths-preserved : goal.paths-preserved
paths-preserved c =
    paths-next (wanted c.args.names.now (mark_of c.args.literals.now)) c.args.turns.now.items c.paths.turns.items c.push.new.self.items c.write_path.new.turns.items c.paths.at (paths_of c.args.paths.now) c.in-Some.path.now
    c.in-Some.ensures c.paths.invariant c.in_ok-push.ensures.items c.in_ok-write_path.ensures

pub returns : goal.returns
returns c =
    let e = c.len-at-end.ensures in
    let h = c.paths-test.false in
    paths-whole (wanted c.args.names.now (mark_of c.args.literals.now)) c.args.turns.now.items c.paths.turns.items c.paths.at (paths_of c.args.paths.now) (omega arith) c.paths.invariant
