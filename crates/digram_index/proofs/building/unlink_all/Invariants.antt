use Rattle.digram_index.specs.Building.{IsClearing}
use Rattle.digram_index.proofs.building.unlink_all.Given as goal

abbrev pub ghosts-unlink_nodes : goal.ghosts-unlink_nodes
ghosts-unlink_nodes a = record { name = a.blank.name; parts = a.blank.parts }

abbrev pub invariant-loop-rule : goal.invariant-loop-rule
invariant-loop-rule l = IsClearing l.grammar.rules l.rule l.fn.index l.index
