use Rattle.std.proofs.Common.{◌≡◌, length}
use Rattle.xml_tokens.specs.Attributes.{has_name}
use Rattle.xml_tokens.specs.SeenTokens.{attributes_of}
use Rattle.xml_tokens.proofs.attributes.has_name.Given as goal

abbrev pub invariant-loop-rest : goal.invariant-loop-rest
invariant-loop-rest l = has_name l.name (attributes_of l.rest) ≡ has_name l.name (attributes_of l.attributes)

abbrev pub decreases-loop-rest : goal.decreases-loop-rest
decreases-loop-rest l = length l.rest
