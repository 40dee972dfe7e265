use Rattle.std.proofs.Common.{arith, refl, reverse}
use Rattle.content_models.specs.Machine.{at_of}
use Rattle.content_models.specs.Tokens.{token_at}
use Rattle.content_models.proofs.Feeding.{fed-begins, fed-on, fed-refuses, fed-ends, fed-open}
use Rattle.content_models.proofs.Lexing.{none-left}
use Rattle.content_models.proofs.model_reading.read_model.Goals as goal

pub loop-rest-init : goal.loop-rest-init
loop-rest-init c = record {
  fed = fed-begins c.args.bytes.now c.skip_blanks-rest.result.now (at_of c.new-machine.result) c.skip_blanks-rest.ensures.left c.new-machine.ensures;
  room = let l = c.skip_blanks-rest.ensures.not_longer in omega arith;
}

pub loop-rest-preserved : goal.loop-rest-preserved
loop-rest-preserved c = record {
  fed = fed-on c.args.bytes.now c.loop-rest.rest.now c.in-Ok.left.now (at_of c.loop-rest.machine) (at_of c.feed.new.machine) c.loop-rest.nesting c.feed.new.nesting c.in-Ok.ensures.taken c.loop-rest.invariant.fed;
  room = c.in-Ok.ensures.room;
}

pub returns-in-Err-clause-bad : goal.returns-in-Err-clause-bad
returns-in-Err-clause-bad c = λ e.
    fed-refuses c.args.bytes.now c.loop-rest.rest.now (at_of c.loop-rest.machine) c.loop-rest.nesting (token_at c.loop-rest.rest.now) refl (c.in-Err.ensures.bad cc)
    (λ n. let t = c.loop-rest-test.true in let i = c.is_empty.ensures in grind (arith)) c.loop-rest.invariant.fed

pub returns-in-Ok-finish-clause-spelled : goal.returns-in-Ok-finish-clause-spelled
returns-in-Ok-finish-clause-spelled c =
    let left = none-left c.loop-rest.rest.now (let t = c.loop-rest-test.false in let i = c.is_empty.ensures in grind (arith)) in
    fed-ends c.args.bytes.now c.loop-rest.rest.now (at_of c.loop-rest.machine) c.loop-rest.nesting (reverse c.in-Ok-finish.code.items) left c.in-Ok-finish.ensures.read c.loop-rest.invariant.fed

pub returns-in-Err-finish-clause-bad : goal.returns-in-Err-finish-clause-bad
returns-in-Err-finish-clause-bad c = λ e.
    let left = none-left c.loop-rest.rest.now (let t = c.loop-rest-test.false in let i = c.is_empty.ensures in grind (arith)) in
    fed-open c.args.bytes.now c.loop-rest.rest.now (at_of c.loop-rest.machine) c.loop-rest.nesting left (c.in-Err-finish.ensures.bad cc) c.loop-rest.invariant.fed
