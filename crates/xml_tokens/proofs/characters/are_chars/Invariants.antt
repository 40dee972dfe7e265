use Rattle.std.proofs.Common.{◌≡◌, length}
use Rattle.plain_tree.specs.XmlNames.{are_chars}
use Rattle.xml_tokens.proofs.characters.are_chars.Given as goal

abbrev pub invariant-loop-rest : goal.invariant-loop-rest
invariant-loop-rest l = are_chars l.rest ≡ are_chars l.bytes

abbrev pub decreases-loop-rest : goal.decreases-loop-rest
decreases-loop-rest l = length l.rest
