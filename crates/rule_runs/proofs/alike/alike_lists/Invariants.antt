use Rattle.std.proofs.Common.{◌≡◌, length}
use Rattle.rule_runs.specs.Alike.{AreAlike}
use Rattle.rule_runs.specs.Listing.{list_hits}
use Rattle.rule_runs.proofs.alike.alike_lists.Given as goal

abbrev pub invariant-lists : goal.invariant-lists
invariant-lists l = record { many : length l.known.items ≡ l.parts-index; alike : AreAlike (list_hits l.lists) l.known.items }
