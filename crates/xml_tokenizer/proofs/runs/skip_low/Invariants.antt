use Rattle.std.proofs.Common.{◌≡◌, ◌≤◌, length}
use Rattle.xml_tokens.specs.Cutting.{back}
use Rattle.xml_tokenizer.specs.Runs.{is_low_run}
use Rattle.xml_tokenizer.proofs.runs.skip_low.Given as goal

abbrev pub invariant-loop-rest : goal.invariant-loop-rest
invariant-loop-rest l = (back is_low_run l.rest ≡ back is_low_run l.bytes) × (length l.rest ≤ length l.bytes)

abbrev pub decreases-loop-rest : goal.decreases-loop-rest
decreases-loop-rest l = length l.rest
