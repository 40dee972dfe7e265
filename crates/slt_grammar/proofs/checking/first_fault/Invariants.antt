use Rattle.std.proofs.Common.{ℕ, ◌<◌}
use Rattle.slt_grammar.specs.Grammars.{IsLawfulAt}
use Rattle.slt_grammar.proofs.checking.first_fault.Given as goal

abbrev pub invariant-loop-rule : goal.invariant-loop-rule
invariant-loop-rule l = (q : ℕ) → q < l.rule → IsLawfulAt l.rules q
