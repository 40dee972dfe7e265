use Rattle.std.proofs.Common.{◌+◌, ◌*◌, ◌-◌, length}
use Rattle.slt_grammar.specs.Segments.{node_tour}
use Rattle.value_cursor.proofs.RuleRises.{RisesAlong}
use Rattle.value_cursor.proofs.rises.rises_of.Given as goal

abbrev pub invariant-stops : goal.invariant-stops
invariant-stops g l = RisesAlong l.grammar.rules l.rule l.walk l.rising l.initial.steps l.steps

abbrev pub decreases-stops : goal.decreases-stops
decreases-stops g l = (l.initial.steps + 2 * length (node_tour l.grammar.rules l.rule)) - l.steps
