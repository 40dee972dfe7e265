use Rattle.std.proofs.Common.{ℕ, ◌+◌, ◌<◌, ◌≤◌, ◌^◌, length}
use Rattle.value_cursor.specs.Cursors.{IsInside, tokens_of}
use Rattle.store_core.specs.Walking.{HasRoom, opens}
use Rattle.store_core.proofs.walking.deepest.Given as goal

abbrev pub invariant-loop-token : goal.invariant-loop-token
invariant-loop-token g l = record {
  inside : IsInside l.grammar.rules l.cursor;
  few : l.depth + opens (tokens_of l.grammar.rules l.cursor) < 2 ^ 64;
  room : (room : ℕ) → l.most ≤ room → HasRoom room l.depth (tokens_of l.grammar.rules l.cursor) → HasRoom room 0 (tokens_of l.grammar.rules l.fn.cursor);
}

abbrev pub decreases-loop-token : goal.decreases-loop-token
decreases-loop-token g l = length (tokens_of l.grammar.rules l.cursor)
