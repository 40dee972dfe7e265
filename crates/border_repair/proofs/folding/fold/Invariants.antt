use Rattle.std.proofs.Common.{◌≤◌, drop, length, reverse}
use Rattle.slt_grammar.specs.Algebras.{ranks_of}
use Rattle.slt_grammar.specs.Bodies.{real_nodes, IsTerm}
use Rattle.border_repair.specs.Folding.{live}
use Rattle.border_repair.proofs.FoldedBodies.{IsFoldedDown}
use Rattle.border_repair.proofs.folding.fold.Given as goal

abbrev pub invariant-labels : goal.invariant-labels
invariant-labels l = record {
  within : l.left ≤ length l.body;
  size : real_nodes (live (reverse l.labels.items)) ≤ real_nodes (drop l.left l.body);
  folded : IsTerm (ranks_of l.rules) l.body → IsFoldedDown (ranks_of l.rules) l.digram l.body l.left (reverse l.roots.items) (reverse l.labels.items);
}

abbrev pub decreases-labels : goal.decreases-labels
decreases-labels l = l.left
