use Rattle.std.proofs.Common.{◌≡◌, ◌≢◌, ◌+◌}
use Rattle.slt_grammar.specs.Grammars.{size}
use Rattle.slt_grammar.specs.Keyed.{rules_of}
use Rattle.digram_index.specs.Linked.{cell_count}
use Rattle.digram_index.specs.Marking.{KeepsMarked}
use Rattle.pair_replace.specs.Chains.{LeavesApart}
use Rattle.pair_replace.specs.Turns.{IsRound, IsTurn}
use Rattle.pair_replace.proofs.replacing.fold_all.Given as goal

abbrev pub invariant-loop-next : goal.invariant-loop-next
invariant-loop-next l = record {
  round : IsRound l.grammar l.index l.digram l.new.place l.new.lower l.fn.grammar l.count;
  left : l.digram.upper ≢ l.digram.lower → cell_count l.digram l.index.cells + l.count ≡ cell_count l.digram l.fn.index.cells;
  apart : LeavesApart l.fn.index l.index l.digram l.count;
  turn : IsTurn l.index l.digram l.next;
  marks : KeepsMarked l.fn.grammar.rules l.fn.index l.grammar.rules l.index;
}

abbrev pub decreases-loop-next : goal.decreases-loop-next
decreases-loop-next l = size (rules_of l.grammar.rules)
