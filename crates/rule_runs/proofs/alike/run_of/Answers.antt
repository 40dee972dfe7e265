use Rattle.std.proofs.Common.{arith}
use Rattle.rule_runs.specs.declared.listing.Part.TheVariants.{Node as PartNode}
use Rattle.rule_runs.proofs.AlikeRuns.{run-more, joined-count, run-none}
use Rattle.rule_runs.proofs.alike.run_of.Goals as goal

pub parts-init : goal.parts-init
parts-init c = record {
  end = omega arith;
  some = omega arith;
  told = λ hits k. run-none hits c.args.parts.now c.args.start c.args.first;
}

pub parts-preserved : goal.parts-preserved
parts-preserved c = record {
  end = omega (arith, c.parts.invariant.end);
  some = omega (arith, c.parts.invariant.some, joined-count c.parts.run.hits c.in-Some.next c.in-Some-joined.both c.in-Some-joined.ensures);
  told = λ hits k. run-more hits c.args.parts.now c.args.start c.parts.run.end (PartNode 0 0) c.args.first c.parts.run.hits c.in-Some.next c.in-Some-joined.both c.parts.invariant.end c.parts-test.true (c.parts.invariant.told hits k) (c.in-Some.ensures.alike hits k) c.in-Some-joined.ensures;
}
