use Rattle.std.proofs.Common.{◌+◌, ◌-◌, length}
use Rattle.slt_grammar.specs.Keyed.{nodes_at}
use Rattle.digram_index.proofs.BodyUnlinks.{IsUnlinking}
use Rattle.digram_index.proofs.calling.unlink_body.Given as goal

abbrev pub invariant-loop-model : goal.invariant-loop-model
invariant-loop-model g l = IsUnlinking l.grammar l.fn.at l.rule l.fn.index l.index l.model l.copy l.initial.steps l.steps

abbrev pub decreases-loop-model : goal.decreases-loop-model
decreases-loop-model g l = length (nodes_at l.grammar.rules l.rule) + length (nodes_at l.grammar.rules l.rule) + l.initial.steps - l.steps
