use Rattle.std.proofs.Common.{◌≡◌, ◌≤◌, ◌+◌, ◌-◌, ◌*◌}
use Rattle.plain_tree.specs.Tree.{Tree, none, more}
use Rattle.slt_grammar.specs.Coding.{Codes}
use Rattle.slt_grammar.specs.Grammars.{value, whole}
use Rattle.slt_grammar.specs.Keyed.{rules_of}
use Rattle.segment_counts.specs.Counting.{told}
use Rattle.segment_counts.specs.declared.counts.Measure.TheVariants.{Nodes}
use Rattle.preorder_address.proofs.TreeAttributes.{from_number}
use Rattle.preorder_address.proofs.kids.leading_attributes.Given as goal

abbrev pub invariant-loop-passed : goal.invariant-loop-passed
invariant-loop-passed g l = record {
  there : l.first + l.passed ≤ told Nodes l.counts.rows (l.counts.rules - 1) 0;
  attributes : (t : Tree) → Codes l.names (more t none) (value (rules_of l.grammar.rules)) → from_number t l.first l.most ≡ l.passed + from_number t (l.first + l.passed) (l.most - l.passed);
  few : l.steps ≤ l.initial.steps + l.passed * (4 * whole (rules_of l.grammar.rules) + 1);
}
