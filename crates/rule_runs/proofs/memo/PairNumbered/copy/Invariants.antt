use Rattle.std.proofs.Common.{◌≡◌, take}
use Rattle.rule_runs.proofs.memo.PairNumbered.copy.Given as goal

abbrev pub invariant-loop-state : goal.invariant-loop-state
invariant-loop-state g l = l.states.items ≡ take l.state-index l.self.states.items
