use Rattle.std.proofs.Common.{◌≡◌, ◌+◌, ℕ, List, Some}
use Rattle.rule_arena.specs.Terms.{Node, term_at}
use Rattle.slt_grammar.specs.Detaching.{AreArgs, Laced}
use Rattle.slt_grammar.proofs.Detachings.{Loosening}
use Rattle.slt_grammar.proofs.detaching.loosen.Given as goal

abbrev pub invariant-loop-i : goal.invariant-loop-i
invariant-loop-i l = record {
  loosening : (r : ℕ) (ns : List Node) (p : ℕ) (args : List (List Node))
      → term_at l.initial.arena r ≡ Some ns → (L : Laced ns p args) → AreArgs l.keys args
      → Loosening l.initial.arena l.arena r ns p args L l.keys l.i;
  spare : l.arena.spare + l.i ≡ l.initial.arena.spare;
  limit : l.arena.limit ≡ l.initial.arena.limit;
}
