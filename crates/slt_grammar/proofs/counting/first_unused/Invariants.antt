use Rattle.std.proofs.Common.{ℕ, ◌<◌, get_or}
use Rattle.slt_grammar.proofs.counting.first_unused.Given as goal

abbrev pub invariant-loop-rule : goal.invariant-loop-rule
invariant-loop-rule l = (q : ℕ) → q < l.rule → 0 < get_or l.calls q 0
