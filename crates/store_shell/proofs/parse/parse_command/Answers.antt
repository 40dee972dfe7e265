use Rattle.std.proofs.Common.{sym}
use Rattle.store_shell.proofs.Arguments.{from_behind}
use Rattle.store_shell.proofs.Words.{asks-by-given, no_verb, words_at}
use Rattle.store_shell.proofs.parse.parse_command.Goals as goal

pub returns-in_err-verb : goal.returns-in_err-verb
returns-in_err-verb c =
    rw c.from_residual-in_err-verb.ensures (λ act asks. no_verb c.args.words.now c.in_ok-space.space act (sym c.in_ok-space.ensures.first) c.in_err-verb.ensures asks)

pub returns : goal.returns
returns c =
    asks-by-given c.in_ok-verb.verb c.args.words.now (from_behind c.args.words.now c.in_ok-space.space)
    (words_at c.in_ok-verb.verb c.args.words.now c.in_ok-space.space (sym c.in_ok-space.ensures.first) c.in_ok-verb.ensures) c.command_of.result c.command_of.ensures
