use Rattle.std.proofs.Common.{◌≡◌, ◌++◌}
use Rattle.xpath_parser.specs.Shown.{paths_of}
use Rattle.selecting_automaton.specs.Program.{selecting}
use Rattle.text_list.specs.Marking.{mark_of}
use Rattle.selecting_automaton.specs.Wanting.{wanted}
use Rattle.selecting_automaton.proofs.Writing.{paths_from}
use Rattle.selecting_automaton.proofs.compiling.write_paths.Given as goal

abbrev pub invariant-paths : goal.invariant-paths
invariant-paths l = l.turns.items ++ selecting (wanted l.names (mark_of l.literals)) (paths_from l.at (paths_of l.paths)) ≡ l.fn.turns.items ++ selecting (wanted l.names (mark_of l.literals)) (paths_of l.paths)
