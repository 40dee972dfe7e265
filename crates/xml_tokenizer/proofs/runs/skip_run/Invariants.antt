use Rattle.std.proofs.Common.{length, ◌≤◌}
use Rattle.xml_tokens.specs.Cutting.{Begins}
use Rattle.xml_tokenizer.specs.Runs.{IsRun}
use Rattle.xml_tokenizer.proofs.runs.skip_run.Given as goal

abbrev pub invariant-loop-after : goal.invariant-loop-after
invariant-loop-after l = Begins IsRun l.bytes l.rest × (length l.rest ≤ length l.bytes)

abbrev pub decreases-loop-after : goal.decreases-loop-after
decreases-loop-after l = length l.rest
