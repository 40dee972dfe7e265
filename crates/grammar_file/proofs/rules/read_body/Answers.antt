use Rattle.std.proofs.Common.{arith}
use Rattle.std.proofs.lemmas.Result.{err_from_is_err_and}
use Rattle.slt_grammar.specs.Algebras.{ranks_of}
use Rattle.grammar_file.proofs.BodyReading.{arity_small, body_goes, body_breaks, body_is_cut, body_ends}
use Rattle.grammar_file.proofs.Reading.{fails_too}
use Rattle.grammar_file.proofs.rules.read_body.Goals as goal

pub returns-then-missing-len : goal.returns-then-missing-len
returns-then-missing-len c =
    body_is_cut c.args.names c.args.before.now c.args.scan.now c.loop-missing.body c.loop-missing.missing c.loop-missing.scan c.loop-missing.invariant
    (omega (arith, c.len.ensures.value, c.if-missing-len.true))

pub returns-in_err-label : goal.returns-in_err-label
returns-in_err-label c =
    let p = err_from_is_err_and c.from_residual.result c.from_residual.ensures.1 in
    rw (p.1, p.2) (fails_too c.in_err-label.field-0.0
    (body_breaks c.args.names c.args.before.now c.args.scan.now c.loop-missing.body c.loop-missing.missing c.loop-missing.scan c.loop-missing.invariant c.loop-missing-test.true)
    c.in_err-label.ensures)

pub overflow_add-missing : goal.overflow_add-missing
overflow_add-missing c =
    omega (arith, c.len.ensures, c.if-missing-len.false, c.kids_of.ensures, arity_small (ranks_of c.args.before.now) c.requires c.in_ok-label.label)

pub loop-missing-preserved : goal.loop-missing-preserved
loop-missing-preserved c =
    rw c.in_ok-push.ensures.ok
    (body_goes c.args.names c.args.before.now c.args.scan.now c.loop-missing.body c.loop-missing.missing c.loop-missing.scan c.loop-missing.invariant
    c.read_label.new.scan c.in_ok-label.label c.kids_of.result c.loop-missing-test.true c.in_ok-label.ensures.0 c.in_ok-label.ensures.1 c.kids_of.ensures)

pub returns : goal.returns
returns c =
    body_ends c.args.names c.args.before.now c.args.scan.now c.loop-missing.body c.loop-missing.missing c.loop-missing.scan c.loop-missing.invariant
    (omega (arith, c.loop-missing-test.false))
