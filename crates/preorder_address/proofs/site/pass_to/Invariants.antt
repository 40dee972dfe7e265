use Rattle.std.proofs.Common.{◌+◌, ◌*◌, ◌-◌, length}
use Rattle.slt_grammar.specs.Segments.{node_tour}
use Rattle.preorder_address.specs.Weighing.{weight_of}
use Rattle.preorder_address.proofs.Passing.{Passing}
use Rattle.preorder_address.proofs.site.pass_to.Given as goal

abbrev pub invariant-stops : goal.invariant-stops
invariant-stops g l = Passing l.grammar.rules (weight_of l.weigher) l.args l.fn.rule l.key l.walk l.passed.weight l.passed.params l.initial.steps l.steps

abbrev pub decreases-stops : goal.decreases-stops
decreases-stops g l = (l.initial.steps + 2 * length (node_tour l.grammar.rules l.fn.rule)) - l.steps
