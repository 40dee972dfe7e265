use Rattle.std.proofs.Common.{◌≡◌, length}
use Rattle.std.specs.Prelude.{codes}
use Rattle.plain_tree.specs.Parts.{has_part}
use Rattle.xml_nodes.proofs.lawful_nodes.has_end.Given as goal

abbrev pub invariant-loop-rest : goal.invariant-loop-rest
invariant-loop-rest l = has_part (codes "?>") l.rest ≡ has_part (codes "?>") l.value

abbrev pub decreases-loop-rest : goal.decreases-loop-rest
decreases-loop-rest l = length l.rest
