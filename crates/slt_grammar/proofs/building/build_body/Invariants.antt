use Rattle.std.proofs.Common.{◌≡◌, ◌+◌, ◌-◌, ◌≤◌, length, drop}
use Rattle.slt_grammar.specs.Algebras.{ranks_of}
use Rattle.slt_grammar.specs.Building.{AreBuilt, TermsStay}
use Rattle.slt_grammar.proofs.Growing.{WereNone}
use Rattle.slt_grammar.proofs.building.build_body.Given as goal

abbrev pub invariant-loop-i : goal.invariant-loop-i
invariant-loop-i l = record {
  built : AreBuilt (ranks_of l.rules) l.arena (drop l.top l.stack) (drop l.i l.body);
  new : WereNone l.initial.arena (drop l.top l.stack);
  keeps : TermsStay l.initial.arena l.arena;
  spare : l.arena.spare + (length l.body - l.i) ≡ l.initial.arena.spare;
  top : l.top ≤ length l.stack;
  stack : length l.stack ≡ length l.initial.stack;
}
