use Rattle.std.proofs.Common.{arith}
use Rattle.preorder_address.proofs.KidWalking.{is-node}
use Rattle.preorder_address.proofs.site.kid_weights.Goals as goal

pub returns-clause-weights : goal.returns-clause-weights
returns-clause-weights g c = λ r p x e f j.
    let few = (is-node c.args.grammar.now c.requires.keyed r p x e).few in
    c.first_kid_weights.ensures.weights r p x e f j (λ l. omega (arith, l, few))
