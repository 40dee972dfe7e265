use Rattle.std.proofs.Common.{◌≡◌, ◌<◌, ◌≤◌, ℕ, Some}
use Rattle.rule_arena.specs.declared.key.Key.{Key}
use Rattle.slt_grammar.specs.Keyed.{key_at}
use Rattle.rule_pruning.specs.Calls.{StandsAsCallOf}
use Rattle.rule_pruning.proofs.call_search.root_caller.Given as goal

abbrev pub invariant-loop-caller : goal.invariant-loop-caller
invariant-loop-caller l = (r : ℕ) (key : Key) → l.from ≤ r → r < l.caller → key_at l.grammar.rules r 0 ≡ Some key → StandsAsCallOf l.grammar.rules l.rule key → ⊥
