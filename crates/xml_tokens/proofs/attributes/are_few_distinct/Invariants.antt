use Rattle.std.proofs.Common.{◌≡◌, length}
use Rattle.xml_tokens.specs.Attributes.{are_distinct}
use Rattle.xml_tokens.specs.SeenTokens.{attributes_of}
use Rattle.xml_tokens.proofs.attributes.are_few_distinct.Given as goal

abbrev pub invariant-loop-rest : goal.invariant-loop-rest
invariant-loop-rest l = are_distinct (attributes_of l.rest) ≡ are_distinct (attributes_of l.attributes)

abbrev pub decreases-loop-rest : goal.decreases-loop-rest
decreases-loop-rest l = length l.rest
