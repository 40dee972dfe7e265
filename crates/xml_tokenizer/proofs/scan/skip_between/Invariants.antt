use Rattle.std.proofs.Common.{◌≡◌, ◌≤◌, length}
use Rattle.xml_tokens.specs.Cutting.{back}
use Rattle.xml_tokenizer.specs.Scanning.{is_between}
use Rattle.xml_tokenizer.proofs.scan.skip_between.Given as goal

abbrev pub invariant-loop-rest : goal.invariant-loop-rest
invariant-loop-rest l = (back (is_between l.quote) l.rest ≡ back (is_between l.quote) l.bytes) × (length l.rest ≤ length l.bytes)

abbrev pub decreases-loop-rest : goal.decreases-loop-rest
decreases-loop-rest l = length l.rest
