use Rattle.std.proofs.Common.{arith}
use Rattle.xml_tokenizer.proofs.RunLaws.{run_none, run_low, run_on}
use Rattle.xml_tokenizer.proofs.runs.skip_run.Goals as goal

pub loop-after-init : goal.loop-after-init
loop-after-init c = (run_none c.args.bytes.now, omega arith)

pub loop-after-preserved : goal.loop-after-preserved
loop-after-preserved c = (
  run_on c.args.bytes.now c.loop-after.rest.now c.skip_low-left.result.now c.in-Some.after.now c.loop-after.invariant.0 c.skip_low-left.ensures.left c.in-Some.ensures.run,
  omega (arith, c.in-Some.ensures.shorter, c.skip_low-left.ensures.not_longer, c.loop-after.invariant.1),
)

pub returns-in-None-clause-run : goal.returns-in-None-clause-run
returns-in-None-clause-run c = run_low c.args.bytes.now c.loop-after.rest.now c.skip_low-left.result.now c.loop-after.invariant.0 c.skip_low-left.ensures.left
