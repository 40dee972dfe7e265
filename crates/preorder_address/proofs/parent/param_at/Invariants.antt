use Rattle.std.proofs.Common.{◌+◌, ◌*◌, ◌-◌, length}
use Rattle.slt_grammar.specs.Segments.{node_tour}
use Rattle.preorder_address.proofs.ParamSeeking.{SeeksParam}
use Rattle.preorder_address.proofs.parent.param_at.Given as goal

abbrev pub invariant-loop-site : goal.invariant-loop-site
invariant-loop-site g l = SeeksParam l.grammar.rules l.fn.rule l.number l.walk l.passed l.initial.steps l.steps

abbrev pub decreases-loop-site : goal.decreases-loop-site
decreases-loop-site g l = (l.initial.steps + 2 * length (node_tour l.grammar.rules l.fn.rule)) - l.steps
