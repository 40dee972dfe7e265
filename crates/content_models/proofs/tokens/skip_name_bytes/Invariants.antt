use Rattle.std.proofs.Common.{◌≡◌, ◌≤◌, length}
use Rattle.xml_tokens.specs.Cutting.{back}
use Rattle.xml_tokens.specs.NameBytes.{is_name_byte}
use Rattle.content_models.proofs.tokens.skip_name_bytes.Given as goal

abbrev pub invariant-loop-rest : goal.invariant-loop-rest
invariant-loop-rest l = (back is_name_byte l.rest ≡ back is_name_byte l.bytes) × (length l.rest ≤ length l.bytes)

abbrev pub decreases-loop-rest : goal.decreases-loop-rest
decreases-loop-rest l = length l.rest
