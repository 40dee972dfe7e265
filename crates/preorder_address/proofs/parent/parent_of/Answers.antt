use Rattle.preorder_address.proofs.TreeAbove.{if-told}
use Rattle.preorder_address.proofs.parent.parent_of.Goals as goal

pub returns-clause-above : goal.returns-clause-above
returns-clause-above g c = λ names ts code. if-told ts c.args.number c.find_parent.result (c.find_parent.ensures.parent names ts code)
