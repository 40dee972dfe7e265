use Rattle.std.proofs.Common.{◌+◌, ◌*◌, ◌-◌, length}
use Rattle.slt_grammar.specs.Segments.{node_tour}
use Rattle.preorder_address.specs.Told.{told_weight}
use Rattle.preorder_address.proofs.Seeking.{Seeks}
use Rattle.preorder_address.proofs.descent.find_part.Given as goal

abbrev pub invariant-loop-number : goal.invariant-loop-number
invariant-loop-number g l = Seeks l.grammar.rules (told_weight l.by l.counts) l.fn.wanted.rule l.fn.wanted.number l.walk l.number l.initial.steps l.steps

abbrev pub decreases-loop-number : goal.decreases-loop-number
decreases-loop-number g l = (l.initial.steps + 2 * length (node_tour l.grammar.rules l.fn.wanted.rule)) - l.steps
