use Rattle.std.proofs.Common.{arith}
use Rattle.digram_index.proofs.KidsLinked.{key-within}
use Rattle.digram_index.proofs.calling.link_kids.Goals as goal

pub returns-clause-linked : goal.returns-clause-linked
returns-clause-linked c = λ i k e r p h. c.loop-i.invariant.linked i k (let w = key-within c.args.kids.now i k e in omega arith) e r p h
