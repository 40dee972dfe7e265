use Rattle.std.proofs.Common.{◌+◌, ◌-◌, length}
use Rattle.slt_grammar.specs.Keyed.{nodes_at}
use Rattle.linked_edits.specs.Runs.{start_of}
use Rattle.linked_edits.proofs.LinkingRuns.{IsLinkingRun}
use Rattle.linked_edits.proofs.runs.link_run.Given as goal

abbrev pub invariant-loop-here : goal.invariant-loop-here
invariant-loop-here g l = IsLinkingRun l.grammar l.fn.from l.to l.here l.fn.index l.index l.initial.steps l.steps

abbrev pub decreases-loop-here : goal.decreases-loop-here
decreases-loop-here g l = length (nodes_at l.grammar.rules (start_of l.grammar.rules)) + l.initial.steps - l.steps
