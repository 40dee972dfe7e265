use Rattle.std.proofs.Common.{sym, inl}
use Rattle.store_shell.proofs.Arguments.{spaced, unspaced, unspaced_front}
use Rattle.store_shell.proofs.parse.cut_word.Goals as goal

pub returns-in-Some-clause-word : goal.returns-in-Some-clause-word
returns-in-Some-clause-word c = unspaced_front c.args.bytes.now c.in-Some.space (sym c.in-Some.ensures.first)

pub returns-in-Some-clause-begun : goal.returns-in-Some-clause-begun
returns-in-Some-clause-begun c = inl (spaced c.args.bytes.now c.in-Some.space (sym c.in-Some.ensures.first))

pub returns-in-None-clause-word : goal.returns-in-None-clause-word
returns-in-None-clause-word c = unspaced c.args.bytes.now (sym c.in-None.ensures.first)
