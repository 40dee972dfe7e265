use Rattle.std.proofs.Common.{◌≡◌, vec_len}
use Rattle.rule_runs.specs.Tables.{Grows}
use Rattle.rule_runs.proofs.index.keep_first.Given as goal

abbrev pub invariant-loop-i : goal.invariant-loop-i
invariant-loop-i l = record {
  count : vec_len l.first ≡ l._i;
  grows : Grows l.initial.first.items l.first.items;
}
