use Rattle.preorder_address.proofs.ToldLevels.{over-ready, over-levels, over-steps}
use Rattle.preorder_address.proofs.descent.Descent.over.Goals as goal

pub returns-clause-ready : goal.returns-clause-ready
returns-clause-ready c = λ g k a i. over-ready g k c.args.counts.now a c.args.self.by c.args.self.next i

pub returns-clause-levels : goal.returns-clause-levels
returns-clause-levels c = λ g k a i. over-levels g k c.args.counts.now a c.args.self.by c.args.self.next i

pub returns-clause-most : goal.returns-clause-most
returns-clause-most c = λ g k a i. over-steps g k c.args.counts.now a c.args.self.by c.args.self.next i
