use Rattle.std.proofs.Common.{◌+◌, ◌*◌, ◌≤◌, length}
use Rattle.slt_grammar.specs.Grammars.{calls_of}
use Rattle.slt_grammar.specs.Keyed.{nodes_at, rules_of}
use Rattle.digram_index.specs.Linked.{IsIndexOf}
use Rattle.digram_index.specs.Marking.{KeepsMarked}
use Rattle.rule_pruning.proofs.InlineCalls.{IsInlining}
use Rattle.rule_pruning.proofs.inlining.inline_calls.Given as goal

abbrev pub invariant-loop : goal.invariant-loop
invariant-loop l = record {
  inlining : IsInlining l.fn.grammar.rules l.grammar.rules l.fn.rule l.counter;
  within : l.counter ≤ calls_of (rules_of l.fn.grammar.rules) l.fn.rule;
  index : IsIndexOf l.grammar l.index;
  nodes : calls_of (rules_of l.fn.grammar.rules) l.fn.rule * length (nodes_at l.fn.grammar.rules l.fn.rule) ≤ l.grammar.spare_nodes + l.counter * length (nodes_at l.fn.grammar.rules l.fn.rule);
  links : calls_of (rules_of l.fn.grammar.rules) l.fn.rule * length (nodes_at l.fn.grammar.rules l.fn.rule) ≤ l.index.spare_links + l.counter * length (nodes_at l.fn.grammar.rules l.fn.rule);
  cells : l.grammar.limit ≤ length l.index.cells;
  marks : KeepsMarked l.fn.grammar.rules l.fn.index l.grammar.rules l.index;
}
