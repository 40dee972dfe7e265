use Rattle.std.proofs.Common.{◌↔◌, ◌≤◌, ◌+◌, drop, length}
use Rattle.rule_arena.specs.Preorder.{AreTerms}
use Rattle.slt_grammar.specs.Algebras.{ranks_of}
use Rattle.slt_grammar.specs.Bodies.{arity, IsTerm}
use Rattle.slt_grammar.proofs.bodies.is_one_term.Given as goal

abbrev pub invariant-loop-i : goal.invariant-loop-i
invariant-loop-i l = record {
  rest : AreTerms (arity (ranks_of l.rules)) l.open (drop l.i l.body) ↔ IsTerm (ranks_of l.rules) l.body;
  few : l.open ≤ length l.body + 9;
}
