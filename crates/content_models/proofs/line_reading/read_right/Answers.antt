use Rattle.std.proofs.Common.{reverse, subst, sym}
use Rattle.content_models.specs.Lines.{SpellsModel}
use Rattle.content_models.proofs.PostfixCode.{code-exact, model-told}
use Rattle.content_models.proofs.line_reading.read_right.Goals as goal

pub returns-in-Ok-clause-spelled : goal.returns-in-Ok-clause-spelled
returns-in-Ok-clause-spelled c =
    let s = c.in-Ok.ensures.spelled in
    subst (λ m. SpellsModel c.args.right.now m c.in-Ok.read.depth) (sym (model-told s.0 (reverse c.in-Ok.read.code.items) s.2)) s.1

pub returns-in-Ok-clause-exact : goal.returns-in-Ok-clause-exact
returns-in-Ok-clause-exact c = let s = c.in-Ok.ensures.spelled in code-exact s.0 (reverse c.in-Ok.read.code.items) s.2

pub returns-in-Err-clause-bad : goal.returns-in-Err-clause-bad
returns-in-Err-clause-bad c = λ e. c.in-Err.ensures.bad cc
