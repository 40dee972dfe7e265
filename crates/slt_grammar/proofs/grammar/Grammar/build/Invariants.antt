use Rattle.std.proofs.Common.{◌≡◌, ◌+◌, ◌≤◌, take, vec_len}
use Rattle.slt_grammar.specs.Grammars.{whole}
use Rattle.slt_grammar.proofs.Storing.{AreStored}
use Rattle.slt_grammar.proofs.grammar.Grammar.build.Given as goal

abbrev pub invariant-loop-rule : goal.invariant-loop-rule
invariant-loop-rule l = record {
  stored : AreStored l.rules l.calls (take l.order-inside.used l.order-inside.ids.items) l.rule l.arena l.roots.items l.ranks.items l.counts.items;
  room : whole l.rules ≤ l.arena.spare + whole (take l.rule l.rules);
  stack : vec_len l.stack ≡ l.labels;
}
