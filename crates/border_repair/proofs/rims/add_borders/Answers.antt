use Rattle.std.proofs.Common.{◌≡◌, ◌++◌, length, ap, sym, ◌∙◌, append-nil, rules}
use Rattle.border_repair.specs.Rims.{rim_at}
use Rattle.border_repair.specs.Weighing.{borders_from}
use Rattle.border_repair.proofs.Steps.{borders-none, stack-end}
use Rattle.border_repair.proofs.rims.add_borders.Goals as goal

pub returns : goal.returns
returns g c =
    let none : length c.labels.coming.items ≡ 0 = search rules in
    sym (c.labels.invariant.done ∙ ap (λ cs. c.labels.borders.items ++ borders_from (rim_at c.args.rims.now) cs c.labels.walk) (stack-end c.labels.coming.items none)
    ∙ ap (λ bs. c.labels.borders.items ++ bs) (borders-none (rim_at c.args.rims.now) c.labels.walk) ∙ append-nil c.labels.borders.items)
