use Rattle.std.proofs.Common.{ap, sym, ◌∙◌, Some}
use Rattle.content_models.specs.Givens.{comment}
use Rattle.content_models.proofs.GivenLines.{comment-bad}
use Rattle.content_models.proofs.line_reading.read_line.Goals as goal

pub returns-in-Some-false-clause-bad : goal.returns-in-Some-false-clause-bad
returns-in-Some-false-clause-bad c = λ e gs.
    comment-bad c.args.line.now gs (ap comment (sym c.skip_blanks-rest.ensures.left) ∙ sym c.comment.ensures ∙ c.in-Some-false.is ∙ ap Some c.in-Some-false.field-0-test)
