use Rattle.std.proofs.Common.{arith}
use Rattle.segment_counts.proofs.Cuts.{no-rule, no-segment, row_within, segment-is}
use Rattle.segment_counts.proofs.counts.segment_at.Goals as goal

pub returns-then-rule-ends : goal.returns-then-rule-ends
returns-then-rule-ends c = no-rule c.args.segments.now c.args.ends.now c.args.rule c.args.segment c.if-rule-ends.true

pub overflow_sub-end : goal.overflow_sub-end
overflow_sub-end c = let h = row_within 0 c.args.segments.now c.args.ends.now c.args.rule c.requires c.if-rule-ends.false in omega (arith, h.0, c.start_of-start.ensures)

pub bounds-segments-start : goal.bounds-segments-start
bounds-segments-start c = let h = row_within 0 c.args.segments.now c.args.ends.now c.args.rule c.requires c.if-rule-ends.false in omega (arith, h.0, h.1, c.start_of-start.ensures, c.if-segment-end.true)

pub returns-then-segment-end : goal.returns-then-segment-end
returns-then-segment-end c = segment-is c.args.segments.now c.args.ends.now c.args.rule c.args.segment c.start_of-start.result c.start_of-start.ensures c.if-rule-ends.false c.if-segment-end.true

pub returns-else-segment-end : goal.returns-else-segment-end
returns-else-segment-end c = no-segment c.args.segments.now c.args.ends.now c.args.rule c.args.segment c.start_of-start.result c.start_of-start.ensures c.if-rule-ends.false c.if-segment-end.false
