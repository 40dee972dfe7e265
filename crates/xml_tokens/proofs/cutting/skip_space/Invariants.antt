use Rattle.std.proofs.Common.{◌≡◌, length}
use Rattle.plain_tree.specs.XmlNames.{is_space}
use Rattle.xml_tokens.specs.Cutting.{back}
use Rattle.xml_tokens.proofs.cutting.skip_space.Given as goal

abbrev pub invariant-loop-rest : goal.invariant-loop-rest
invariant-loop-rest l = back is_space l.rest ≡ back is_space l.bytes

abbrev pub decreases-loop-rest : goal.decreases-loop-rest
decreases-loop-rest l = length l.rest
