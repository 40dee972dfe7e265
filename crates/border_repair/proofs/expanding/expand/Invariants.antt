use Rattle.std.proofs.Common.{◌+◌, ◌*◌, ◌-◌, length}
use Rattle.slt_grammar.specs.Segments.{node_tour}
use Rattle.border_repair.specs.Expanding.{outside_at}
use Rattle.border_repair.proofs.ExpandSteps.{IsExpanding}
use Rattle.border_repair.proofs.expanding.expand.Given as goal

abbrev pub invariant-stops : goal.invariant-stops
invariant-stops g l = IsExpanding l.grammar.rules (outside_at l.outsides) l.rule l.walk l.labels.items l.initial.steps l.steps

abbrev pub decreases-stops : goal.decreases-stops
decreases-stops g l = (l.initial.steps + 2 * length (node_tour l.grammar.rules l.rule)) - l.steps
