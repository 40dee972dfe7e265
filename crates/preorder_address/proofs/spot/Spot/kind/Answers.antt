use Rattle.preorder_address.proofs.TreeSpots.{spot-kind, spot-named}
use Rattle.preorder_address.proofs.spot.Spot.kind.Goals as goal

pub returns-in_err-kind : goal.returns-in_err-kind
returns-in_err-kind c = λ G n t s code.
    let a = c.args in
    absurd (spot-named a.names.now G t code n a.self.now.levels.items a.self.now.symbol a.self.now.before s c.in_err-kind.ensures)

pub returns : goal.returns
returns c = λ G n t s code.
    let a = c.args in
    spot-kind a.names.now G t code n a.self.now.levels.items a.self.now.symbol a.self.now.before s c.in_ok-kind.kind c.in_ok-kind._name.now c.in_ok-kind.ensures
