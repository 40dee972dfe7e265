use Rattle.std.proofs.Common.{◌≡◌, ◌+◌, ◌++◌, reverse, vec_len}
use Rattle.rule_runs.proofs.stack.pop_many.Given as goal

abbrev pub invariant-loop-i : goal.invariant-loop-i
invariant-loop-i g l = record { all : l.taken.items ++ reverse l.stack.items ≡ reverse l.initial.stack.items; count : vec_len l.taken ≡ l._i; left : vec_len l.stack + l._i ≡ vec_len l.initial.stack }
