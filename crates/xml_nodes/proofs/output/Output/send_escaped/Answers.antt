use Rattle.std.proofs.Common.{arith}
use Rattle.std.proofs.lemmas.Result.{err_from_is_err_and}
use Rattle.xml_nodes.proofs.Escaping.{begins, goes_on, fails, ends}
use Rattle.xml_nodes.proofs.output.Output.send_escaped.Goals as goal

pub loop-plain-init : goal.loop-plain-init
loop-plain-init g c = begins c.args.quoted c.args.bytes.now _ (omega arith)

pub returns-in_err-send_two : goal.returns-in_err-send_two
returns-in_err-send_two g c =
    fails c.args.quoted c.args.bytes.now c.loop-plain.rest.now c.in-Some.plain.now c.in-Some.escape.now c.in-Some.behind.now _ _ _ c.loop-plain.invariant c.in-Some.ensures
    _ c.from_residual.result (err_from_is_err_and c.from_residual.result c.from_residual.ensures.1).1 c.in_err-send_two.ensures

pub loop-plain-preserved : goal.loop-plain-preserved
loop-plain-preserved g c =
    goes_on c.args.quoted c.args.bytes.now c.loop-plain.rest.now c.in-Some.plain.now c.in-Some.escape.now c.in-Some.behind.now _ _ _ c.loop-plain.invariant c.in-Some.ensures
    c.in_ok-send_two.ensures

pub returns : goal.returns
returns g c = ends c.args.quoted c.args.bytes.now c.loop-plain.rest.now _ _ _ c.send.result c.loop-plain.invariant c.in_default.ensures c.send.ensures
