use Rattle.std.proofs.Common.{arith}
use Rattle.preorder_address.specs.declared.numbering.Numbering.TheVariants as by
use Rattle.preorder_address.proofs.Locating.{leads}
use Rattle.preorder_address.proofs.descent.locate.Goals as goal

pub returns-clause-leads : goal.returns-clause-leads
returns-clause-leads c =
    leads by.Nodes c.args.counts.now c.saturating_sub-rule.result c.args.number (omega (arith, c.rules.ensures, c.saturating_sub-rule.ensures)) (omega (arith, c.nodes.ensures.kept, c.if-number-nodes.false))
