use Rattle.std.proofs.Common.{◌≡◌, ◌<◌, ℕ, length, get_or, take}
use Rattle.slt_grammar.specs.Grammars.{calls_of}
use Rattle.slt_grammar.proofs.counting.count_calls.Given as goal

abbrev pub invariant-loop-rule : goal.invariant-loop-rule
invariant-loop-rule l = record {
  len : length l.calls ≡ length l.rules;
  calls : (q : ℕ) → q < length l.rules → get_or l.calls q 0 ≡ calls_of (take l.rule l.rules) q;
}
