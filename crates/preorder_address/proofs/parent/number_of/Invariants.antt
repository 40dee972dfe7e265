use Rattle.std.proofs.Common.{ℕ, Option, ◌≤◌, ◌+◌, ◌*◌, length}
use Rattle.slt_grammar.specs.Keyed.{nodes_at}
use Rattle.preorder_address.specs.Descents.{nodes_up_to}
use Rattle.preorder_address.specs.Parents.{EntryTells}
use Rattle.preorder_address.proofs.parent.number_of.Given as goal

abbrev pub invariant-loop-at : goal.invariant-loop-at
invariant-loop-at g l = record {
  tells : (limit : ℕ) (up : Option ℕ) → EntryTells l.grammar.rules limit l.fn.entry up → EntryTells l.grammar.rules limit l.at up;
  few : l.steps + 12 * nodes_up_to l.grammar.rules l.at.rule ≤ l.initial.steps + 12 * nodes_up_to l.grammar.rules l.fn.entry.rule + 6 * length (nodes_at l.grammar.rules l.at.rule);
}

abbrev pub decreases-loop-at : goal.decreases-loop-at
decreases-loop-at g l = l.at.rule
