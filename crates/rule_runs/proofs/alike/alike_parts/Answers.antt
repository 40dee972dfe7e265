use Rattle.std.proofs.Common.{arith}
use Rattle.rule_runs.proofs.OneSymbol.{parts-more}
use Rattle.rule_runs.proofs.alike.alike_parts.Goals as goal

pub parts-preserved : goal.parts-preserved
parts-preserved c = λ hits k. parts-more hits c.args.parts.now c.parts.part-index _ c.parts.all c.in-Some.next c.in-Some-joined.both (omega arith) (c.parts.invariant hits k) (c.in-Some.ensures.alike hits k) c.in-Some-joined.ensures
