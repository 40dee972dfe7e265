use Rattle.std.proofs.Common.{◌≡◌, ℕ, Some}
use Rattle.slt_grammar.specs.Keyed.{key_at}
use Rattle.grammar_tests.proofs.descents.place_of.Given as goal

abbrev pub invariant-loop-place : goal.invariant-loop-place
invariant-loop-place g l = (p : ℕ) × (key_at l.grammar.rules l.rule p ≡ Some l.key)
