use Rattle.std.proofs.Common.{◌≡◌, ◌++◌}
use Rattle.slt_grammar.specs.KeyedEdits.{parameters}
use Rattle.pair_replace.proofs.new_rule.push_parameters.Given as goal

abbrev pub invariant-loop-done : goal.invariant-loop-done
invariant-loop-done l = l.body ≡ l.fn.body ++ parameters l.done
