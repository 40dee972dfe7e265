use Rattle.std.proofs.Common.{◌≡◌, ◌≤◌, length}
use Rattle.xml_tokens.specs.Cutting.{back}
use Rattle.xml_tokens.specs.NameBytes.{is_low_name}
use Rattle.xml_tokens.proofs.cutting.skip_low_name.Given as goal

abbrev pub invariant-loop-rest : goal.invariant-loop-rest
invariant-loop-rest l = (back is_low_name l.rest ≡ back is_low_name l.bytes) × (length l.rest ≤ length l.bytes)

abbrev pub decreases-loop-rest : goal.decreases-loop-rest
decreases-loop-rest l = length l.rest
