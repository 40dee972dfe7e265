use Rattle.digram_index.proofs.KidsLinked.{AreLinked}
use Rattle.digram_index.proofs.calling.link_kids.Given as goal

abbrev pub invariant-loop-i : goal.invariant-loop-i
invariant-loop-i l = AreLinked l.grammar l.kids l.fn.index l.index l.i
