use Rattle.std.proofs.Common.{◌<◌, ℕ, None, get_or}
use Rattle.rule_runs.proofs.index.Index.find.Given as goal

-- nothing is found at the places so far
abbrev pub invariant-loop-place : goal.invariant-loop-place
invariant-loop-place g l = (i : ℕ) → i < l.place-index → goal.F-post g l.under (get_or l.first i 0) None
