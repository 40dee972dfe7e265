use Rattle.digram_index.proofs.NodeLinks.{AreUnlinked}
use Rattle.digram_index.proofs.nodes.unlink_kids.Given as goal

abbrev pub invariant-loop-i : goal.invariant-loop-i
invariant-loop-i l = AreUnlinked l.kids l.fn.index l.index l.i
