use Rattle.std.proofs.Common.{◌≡◌, ◌+◌, ◌<◌, ◌≤◌, ℕ, length, get_or, drop}
use Rattle.slt_grammar.specs.Bodies.{calls_in, CallsBelow}
use Rattle.slt_grammar.proofs.counting.drop_calls.Given as goal

abbrev pub invariant-loop-label : goal.invariant-loop-label
invariant-loop-label l = record {
  len : length l.calls ≡ length l.initial.calls;
  there : CallsBelow (length l.initial.calls) (drop l.label-index l.labels);
  counted : (q : ℕ) → q < length l.initial.calls → calls_in q (drop l.label-index l.labels) ≤ get_or l.calls q 0;
  calls : (q : ℕ) → q < length l.initial.calls → get_or l.calls q 0 + calls_in q l.labels ≡ get_or l.initial.calls q 0 + calls_in q (drop l.label-index l.labels);
}
