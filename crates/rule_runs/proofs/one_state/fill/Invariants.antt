use Rattle.std.proofs.Common.{◌≡◌}
use Rattle.std.specs.Prelude.{replicate}
use Rattle.rule_runs.proofs.one_state.fill.Given as goal

abbrev pub invariant-states : goal.invariant-states
invariant-states g l = l.states.items ≡ replicate l._i (g.A.Rising.algebra l.automaton).bottom
