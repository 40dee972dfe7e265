use Rattle.xpath_parser.specs.Shown.{steps_of}
use Rattle.text_list.specs.Marking.{mark_of}
use Rattle.selecting_automaton.specs.Wanting.{wanted}
use Rattle.selecting_automaton.proofs.Writing.{WalksWritten}
use Rattle.selecting_automaton.proofs.compiling.write_path.Given as goal

abbrev pub invariant-steps : goal.invariant-steps
invariant-steps l = WalksWritten (wanted l.names (mark_of l.literals)) l.fn.turns.items l.turns.items l.at (steps_of l.steps)
