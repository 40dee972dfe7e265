use Rattle.std.proofs.Common.{◌∙◌, sym, drop}
use Rattle.preorder_address.specs.Weighing.{weight_of}
use Rattle.preorder_address.proofs.Weighers.{laden-part, plain-of}
use Rattle.preorder_address.proofs.site.part_weight.Goals as goal

pub returns-in_default : goal.returns-in_default
returns-in_default c = λ G a b.
    let args = c.args in
    c.part.ensures G a b ∙ sym (laden-part (weight_of args.weigher.now) (drop args.params args.args.now) G args.label args.part (plain-of args.label c.in_default.not-Param))
