use Rattle.std.proofs.Common.{◌<◌, ℕ, get_or}
use Rattle.slt_grammar.specs.Grammars.{body_at}
use Rattle.fcns_encoding.specs.Leaves.{HasLeaf}
use Rattle.fcns_encoding.proofs.leaf_rules.count_leaves.Given as goal

abbrev pub invariant-loop-rule : goal.invariant-loop-rule
invariant-loop-rule l = (f : ℕ) → 0 < get_or l.counts f 0 → (r : ℕ) × (r < l.rule-index) × HasLeaf f (body_at l.rules r)
