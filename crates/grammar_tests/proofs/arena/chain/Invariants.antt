use Rattle.std.proofs.Common.{◌-◌, ◌≤◌, IsSome}
use Rattle.rule_arena.specs.Terms.{term_at}
use Rattle.grammar_tests.proofs.arena.chain.Given as goal

abbrev pub invariant-loop-i : goal.invariant-loop-i
invariant-loop-i l = record {
  spare : l.depth - l._i ≤ l.arena.spare;
  root : IsSome (term_at l.arena l.root.number);
}
