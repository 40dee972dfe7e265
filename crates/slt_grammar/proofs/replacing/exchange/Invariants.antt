use Rattle.std.proofs.Common.{◌≡◌, ◌<◌, ℕ, Some, slice_get}
use Rattle.slt_grammar.proofs.replacing.exchange.Given as goal

abbrev pub invariant-loop-i : goal.invariant-loop-i
invariant-loop-i l = record {
  same : l.roots ≡ l.initial.roots;
  before : (j : ℕ) → slice_get l.initial.roots j ≡ Some l.from → j < l.i;
}
