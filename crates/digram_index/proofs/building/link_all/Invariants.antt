use Rattle.digram_index.specs.Building.{IsBuilding}
use Rattle.digram_index.proofs.building.link_all.Given as goal

abbrev pub ghosts-link_nodes : goal.ghosts-link_nodes
ghosts-link_nodes a = record { name = a.blank.name; parts = a.blank.parts }

abbrev pub invariant-loop-rule : goal.invariant-loop-rule
invariant-loop-rule l = IsBuilding l.grammar.rules l.rule l.fn.index l.index
