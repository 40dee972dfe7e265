use Rattle.std.proofs.Common.{◌+◌, ◌-◌, ◌*◌}
use Rattle.slt_grammar.specs.Grammars.{whole}
use Rattle.slt_grammar.specs.Keyed.{rules_of}
use Rattle.preorder_address.specs.Weighing.{weight_of}
use Rattle.preorder_address.proofs.KidWalking.{KidsWalking}
use Rattle.preorder_address.proofs.site.first_kid_weights.Given as goal

abbrev pub invariant-loop-place : goal.invariant-loop-place
invariant-loop-place g l = KidsWalking l.grammar.rules (weight_of l.weigher) l.args l.fn.params l.fn.key l.arity l.next l.place l.param l.weights l.initial.steps l.steps

abbrev pub decreases-loop-place : goal.decreases-loop-place
decreases-loop-place g l = (l.initial.steps + 2 * whole (rules_of l.grammar.rules)) - l.steps
