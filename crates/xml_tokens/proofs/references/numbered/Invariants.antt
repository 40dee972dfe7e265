use Rattle.std.proofs.Common.{◌≡◌, length}
use Rattle.std.specs.List.{list_all}
use Rattle.xml_tokens.specs.References.{char_of, number_after, is_digit}
use Rattle.xml_tokens.proofs.references.numbered.Given as goal

abbrev pub invariant-loop-rest : goal.invariant-loop-rest
invariant-loop-rest l = record {
  rest_digits : list_all (is_digit l.base) l.rest ≡ list_all (is_digit l.base) l.digits;
  same_char : char_of (number_after l.base l.n l.rest) ≡ char_of (number_after l.base 0 l.digits);
}

abbrev pub decreases-loop-rest : goal.decreases-loop-rest
decreases-loop-rest l = length l.rest
