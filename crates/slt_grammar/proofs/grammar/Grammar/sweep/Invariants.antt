use Rattle.std.proofs.Common.{◌≡◌, ◌+◌, ◌<◌, ◌≤◌, ℕ, length}
use Rattle.slt_grammar.specs.Grammars.{calls_of, size, value}
use Rattle.slt_grammar.specs.Keyed.{rules_of}
use Rattle.slt_grammar.specs.KeyedEdits.{DropsTo}
use Rattle.slt_grammar.proofs.grammar.Grammar.sweep.Given as goal

abbrev pub invariant-loop-rule : goal.invariant-loop-rule
invariant-loop-rule l = record {
  drops : DropsTo l.initial.self.rules l.self.rules;
  value : value (rules_of l.self.rules) ≡ value (rules_of l.initial.self.rules);
  size : size (rules_of l.self.rules) ≤ size (rules_of l.initial.self.rules);
  some : l.rule + 1 ≤ length l.self.rules;
  called : (q : ℕ) → l.rule ≤ q → q + 1 < length l.self.rules → 0 < calls_of (rules_of l.self.rules) q;
  spare_nodes : l.initial.self.spare_nodes ≤ l.self.spare_nodes;
  spare_rules : l.initial.self.spare_rules ≤ l.self.spare_rules;
  limit : l.self.limit ≡ l.initial.self.limit;
}
