use Rattle.std.proofs.Common.{◌≡◌, List, take}
use Rattle.rule_runs.specs.Alike.{symbols, alike_symbols, AreAlike}
use Rattle.rule_runs.specs.Listing.{parts_hits}
use Rattle.rule_runs.specs.declared.listing.Hit.{Hit}
use Rattle.rule_runs.proofs.alike.alike_parts.Given as goal

abbrev pub invariant-parts : goal.invariant-parts
invariant-parts l = (hits : List (List Hit)) → AreAlike hits l.known → symbols (parts_hits hits (take l.part-index l.parts)) ≡ alike_symbols l.all
