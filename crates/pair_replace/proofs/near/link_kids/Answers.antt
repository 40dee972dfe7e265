use Rattle.std.proofs.Common.{arith}
use Rattle.pair_replace.proofs.KidLinks.{key-within}
use Rattle.pair_replace.proofs.near.link_kids.Goals as goal

pub returns-clause-linked : goal.returns-clause-linked
returns-clause-linked c = λ i k e d r p h. c.loop-i.invariant.linked i k (let w = key-within c.args.kids.now i k e in omega arith) e d r p h
