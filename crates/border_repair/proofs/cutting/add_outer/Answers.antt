use Rattle.std.proofs.Common.{true, reverse, refl, ap, ◌∙◌}
use Rattle.border_repair.specs.declared.cutting.Mark.{Mark}
use Rattle.border_repair.proofs.StackLemmas.{stack-push}
use Rattle.border_repair.proofs.cutting.add_outer.Goals as goal

pub returns-clause-marks : goal.returns-clause-marks
returns-clause-marks c =
    let o = c.args.cutter.now in
    let m : Mark = record { part = c.len.result; args = c.args.args; top = c.args.label; bare = true } in
    (m, ap reverse c.in_ok-push.ensures.items ∙ stack-push o.marks.items m, c.len.ensures ∙ o.parts.ok.0, refl, refl, refl)
