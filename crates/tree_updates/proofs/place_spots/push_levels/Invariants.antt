use Rattle.std.proofs.Common.{◌≡◌, ◌++◌, length}
use Rattle.preorder_address.specs.Descents.{IsInside, levels_of}
use Rattle.tree_updates.proofs.place_spots.push_levels.Given as goal

abbrev pub invariant-loop-level : goal.invariant-loop-level
invariant-loop-level g l = record {
  inside : IsInside l.grammar.rules l.descent;
  levels : l.levels.items ++ levels_of l.grammar.rules l.descent ≡ l.initial.levels.items ++ levels_of l.grammar.rules l.fn.rest;
}

abbrev pub decreases-loop-level : goal.decreases-loop-level
decreases-loop-level g l = length (levels_of l.grammar.rules l.descent)
