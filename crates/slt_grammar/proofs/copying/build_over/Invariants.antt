use Rattle.std.proofs.Common.{◌≡◌, ◌+◌, ◌-◌, ◌≤◌, ℕ, List, length, drop, Some, slice_get}
use Rattle.rule_arena.specs.Terms.{key_in}
use Rattle.rule_arena.specs.declared.key.Key.{Key}
use Rattle.slt_grammar.specs.Copying.{StandsOnce}
use Rattle.slt_grammar.specs.Growing.{IsGrown}
use Rattle.slt_grammar.proofs.copying.build_over.Given as goal

abbrev pub invariant-loop-i : goal.invariant-loop-i
invariant-loop-i l = record {
  grown : (keys : List Key) × IsGrown l.initial.arena l.arena (drop l.i l.shapes) l.args l.left (drop l.top l.stack) keys
      × (StandsOnce l.shapes l.follow → (q : ℕ) → key_in (drop l.i l.shapes) q ≡ Some l.follow → slice_get keys q ≡ Some l.followed);
  top : l.top ≤ length l.stack;
  stack : length l.stack ≡ length l.initial.stack;
  spare : l.arena.spare + (length l.shapes - l.i) + l.left ≡ l.initial.arena.spare + length l.args;
  limit : l.arena.limit ≡ l.initial.arena.limit;
}
