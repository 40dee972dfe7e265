use Rattle.std.proofs.Common.{◌≡◌, None, replicate}
use Rattle.rule_runs.proofs.kept.Bodies.unnoted.Given as goal

abbrev pub invariant-pairs : goal.invariant-pairs
invariant-pairs g l = l.spans.items ≡ replicate l._i None
