use Rattle.std.proofs.Common.{◌≡◌, ◌≤◌, ℕ, get_or}
use Rattle.std.specs.Prelude.{None}
use Rattle.fcns_encoding.specs.Leaves.{AreLeafRules}
use Rattle.fcns_encoding.proofs.leaf_rules.leaf_rules.Given as goal

abbrev pub invariant-loop-symbol : goal.invariant-loop-symbol
invariant-loop-symbol l = record {
  rules : AreLeafRules l.counts l.places l.leaves;
  later : (f : ℕ) → l.symbol ≤ f → get_or l.places f None ≡ None;
}
