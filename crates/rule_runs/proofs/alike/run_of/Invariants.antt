use Rattle.std.proofs.Common.{◌≡◌, ◌-◌, ◌≤◌, ◌++◌, List, length}
use Rattle.std.specs.Prelude.{slice_range}
use Rattle.rule_runs.specs.Alike.{symbols, alike_symbols, AreAlike}
use Rattle.rule_runs.specs.Listing.{parts_hits}
use Rattle.rule_runs.specs.declared.listing.Hit.{Hit}
use Rattle.rule_runs.proofs.alike.run_of.Given as goal

abbrev pub decreases-parts : goal.decreases-parts
decreases-parts l = length l.parts - l.run.end

abbrev pub invariant-parts : goal.invariant-parts
invariant-parts l = record {
  end : l.start ≤ l.run.end;
  some : l.fn.first.count ≤ l.run.hits.count;
  told : (hits : List (List Hit)) → AreAlike hits l.known → alike_symbols l.fn.first ++ symbols (parts_hits hits (slice_range l.parts l.start l.run.end)) ≡ alike_symbols l.run.hits;
}
