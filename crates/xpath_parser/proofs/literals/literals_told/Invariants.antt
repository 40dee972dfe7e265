use Rattle.std.proofs.Common.{◌≡◌, take, reverse}
use Rattle.xpath_parser.specs.Comparing.{literals_told}
use Rattle.xpath_parser.proofs.literals.literals_told.Given as goal

abbrev pub invariant-ops : goal.invariant-ops
invariant-ops l = l.literals.items ≡ literals_told l.bytes (reverse (take l.op-index l.ops))
