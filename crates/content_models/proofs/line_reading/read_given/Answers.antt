use Rattle.std.proofs.Common.{sym}
use Rattle.content_models.proofs.GivenLines.{given-right}
use Rattle.content_models.proofs.line_reading.read_given.Goals as goal

pub returns-in-Some-behind_equals-clause-bad : goal.returns-in-Some-behind_equals-clause-bad
returns-in-Some-behind_equals-clause-bad c = λ e g h.
    c.read_right.ensures.bad e g.model g.depth
    (given-right c.args.rest.now c.in-Some.name.now c.in-Some.behind.now c.in-Some-behind_equals.right.now (sym c.in-Some.ensures.found) (sym c.in-Some-behind_equals.ensures.found) g h)
