use Rattle.pair_replace.proofs.KidLinks.{AreLinked}
use Rattle.pair_replace.proofs.near.link_kids.Given as goal

abbrev pub invariant-loop-i : goal.invariant-loop-i
invariant-loop-i l = AreLinked l.grammar l.kids l.gone l.fn.index l.index l.i
