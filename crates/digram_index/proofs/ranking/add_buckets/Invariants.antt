use Rattle.std.proofs.Common.{◌≡◌, ◌+◌}
use Rattle.digram_index.proofs.ranking.add_buckets.Given as goal

abbrev pub invariant-loop : goal.invariant-loop
invariant-loop l = record {
  held : l.ranking.held ≡ l.fn.ranking.held;
  counted : l.ranking.groups ≡ l.fn.ranking.groups + l.counter;
}
