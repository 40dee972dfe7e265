use Rattle.std.proofs.Common.{arith}
use Rattle.preorder_address.specs.declared.numbering.Numbering.TheVariants as by
use Rattle.preorder_address.proofs.Locating.{leads}
use Rattle.preorder_address.proofs.descent.locate_place.Goals as goal

pub returns-clause-leads : goal.returns-clause-leads
returns-clause-leads c =
    leads by.All c.args.counts.now c.saturating_sub-rule.result c.args.place (omega (arith, c.rules.ensures, c.saturating_sub-rule.ensures)) (omega (arith, c.all.ensures.kept, c.if-place-all.false))
