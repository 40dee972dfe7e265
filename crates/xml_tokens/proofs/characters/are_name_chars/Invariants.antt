use Rattle.std.proofs.Common.{◌≡◌, length}
use Rattle.xml_tokens.specs.NameBytes.{goes_name}
use Rattle.xml_tokens.proofs.characters.are_name_chars.Given as goal

abbrev pub invariant-loop-rest : goal.invariant-loop-rest
invariant-loop-rest l = goes_name l.rest ≡ goes_name l.bytes

abbrev pub decreases-loop-rest : goal.decreases-loop-rest
decreases-loop-rest l = length l.rest
