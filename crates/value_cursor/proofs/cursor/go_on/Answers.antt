use Rattle.std.proofs.Common.{length, ◌∙◌, arith}
use Rattle.value_cursor.proofs.CallLemmas.{stops-front}
use Rattle.value_cursor.proofs.Leaving.{left-behind, left-passed, some-work}
use Rattle.value_cursor.proofs.cursor.go_on.Goals as goal

pub leave-requires-clause-stops : goal.leave-requires-clause-stops
leave-requires-clause-stops g c = stops-front c.args.grammar.now.rules (length c.args.grammar.now.rules) c.args.calls.now.items c.args.here.now c.requires.stops

pub returns-in-Param-clause-left : goal.returns-in-Param-clause-left
returns-in-Param-clause-left g c =
    c.leave.ensures.left ∙ left-behind c.args.grammar.now c.requires.keyed c.args.calls.now.items c.args.here.now c.requires.stops c.args.label c.requires.label c.in-Param.is

pub returns-in-Param-clause-work : goal.returns-in-Param-clause-work
returns-in-Param-clause-work g c = omega (arith, c.leave.ensures.work, some-work c.args.grammar.now c.requires.keyed c.args.calls.now.items c.args.here.now c.requires.stops)

pub returns-in_default-clause-left : goal.returns-in_default-clause-left
returns-in_default-clause-left g c =
    c.pass.ensures.left ∙ left-passed c.args.grammar.now c.requires.keyed c.args.calls.now.items c.args.here.now c.requires.stops c.args.label c.requires.label c.requires.silent c.in_default.not-Call c.in_default.not-Param
