use Rattle.std.proofs.Common.{◌≡◌, take, reverse}
use Rattle.rule_runs.proofs.stack.are_topmost.Given as goal

abbrev pub invariant-states : goal.invariant-states
invariant-states g l = take l.i l.states ≡ take l.i (reverse l.stack.items)
