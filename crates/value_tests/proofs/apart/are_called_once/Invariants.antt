use Rattle.std.proofs.Common.{◌<◌, ℕ}
use Rattle.slt_grammar.specs.Keyed.{rules_of}
use Rattle.value_tests.specs.Assembled.{spots_at, IsCalledOnce}
use Rattle.value_tests.proofs.apart.are_called_once.Given as goal

abbrev pub invariant-rules : goal.invariant-rules
invariant-rules l = (p : ℕ) → p < l.number → IsCalledOnce (rules_of l.grammar.rules) (spots_at l.spots l.origins) p
