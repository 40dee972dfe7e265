use Rattle.preorder_address.proofs.TreeSpots.{spot-rank}
use Rattle.preorder_address.proofs.spot.Spot.text_rank.Goals as goal

pub returns : goal.returns
returns c = λ names G n t s code.
    let a = c.args.self.now in
    spot-rank names G t code n a.levels.items a.symbol a.before s
