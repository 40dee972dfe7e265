use Rattle.store_shell.proofs.Arguments.{none-numbered}
use Rattle.store_shell.proofs.parse.numbered.Goals as goal

pub returns-in_err-number : goal.returns-in_err-number
returns-in_err-number c =
    rw c.from_residual.ensures (none-numbered c.args.arguments.now c.cut_word.result.0.now c.cut_word.result.1.now c.cut_word.ensures.word c.cut_word.ensures.begun c.in_err-number.ensures)
