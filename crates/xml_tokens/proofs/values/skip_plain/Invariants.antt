use Rattle.std.proofs.Common.{◌≡◌, ◌≤◌, length}
use Rattle.xml_tokens.specs.Cutting.{back}
use Rattle.xml_tokens.specs.TokenAt.{gives_itself}
use Rattle.xml_tokens.proofs.values.skip_plain.Given as goal

abbrev pub invariant-loop-rest : goal.invariant-loop-rest
invariant-loop-rest l = (back gives_itself l.rest ≡ back gives_itself l.bytes) × (length l.rest ≤ length l.bytes)

abbrev pub decreases-loop-rest : goal.decreases-loop-rest
decreases-loop-rest l = length l.rest
