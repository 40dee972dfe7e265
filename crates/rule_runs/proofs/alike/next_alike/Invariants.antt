use Rattle.std.proofs.Common.{◌≡◌, reverse, sum_by}
use Rattle.rule_runs.specs.Listing.{coming, AreWithin, level_cost}
use Rattle.rule_runs.proofs.alike.next_alike.Given as goal

abbrev pub decreases-levels : goal.decreases-levels
decreases-levels l = sum_by (level_cost l.lists) (reverse l.levels.items)

abbrev pub invariant-levels : goal.invariant-levels
invariant-levels l = record {
  same : coming l.lists (reverse l.levels.items) ≡ coming l.lists (reverse l.initial.levels.items);
  within : AreWithin l.lists (reverse l.levels.items);
}
