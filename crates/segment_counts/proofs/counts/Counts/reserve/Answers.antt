use Rattle.std.proofs.Common.{ap, arith, length}
use Rattle.segment_counts.proofs.Cuts.{cut-narrow, room-is, table-length}
use Rattle.segment_counts.proofs.counts.Counts.reserve.Goals as goal

pub returns-then-rules-self-clause-room : goal.returns-then-rules-self-clause-room
returns-then-rules-self-clause-room c = omega (arith, room-is _ _ _ _ _ c.self.invariant c.args.self.now c.self.view_is, c.if-rules-self.true)

pub returns-then-rules-gt-MOST_RULES-clause-succeeds : goal.returns-then-rules-gt-MOST_RULES-clause-succeeds
returns-then-rules-gt-MOST_RULES-clause-succeeds c = λ h. absurd (omega (arith, h, room-is _ _ _ _ _ c.self.invariant c.args.self.now c.self.view_is, c.if-rules-self.false))

pub returns-in_err-reserve_exact-clause-succeeds : goal.returns-in_err-reserve_exact-clause-succeeds
returns-in_err-reserve_exact-clause-succeeds c = λ h. absurd (omega (arith, h, room-is _ _ _ _ _ c.self.invariant c.args.self.now c.self.view_is, c.if-rules-self.false))

pub returns-in_err-reserve_exact-2-clause-succeeds : goal.returns-in_err-reserve_exact-2-clause-succeeds
returns-in_err-reserve_exact-2-clause-succeeds c = λ h. absurd (omega (arith, h, room-is _ _ _ _ _ c.self.invariant c.args.self.now c.self.view_is, c.if-rules-self.false))

pub returns-clause-room : goal.returns-clause-room
returns-clause-room c = omega (arith, table-length c.reserve_exact.new.self.items c.reserve_exact-2.new.self.items c.args.rules (omega (arith, ap length c.in_ok-reserve_exact-2.ensures.items, c.self.invariant.within, c.if-rules-self.false)))

pub overflow_sub-segments : goal.overflow_sub-segments
overflow_sub-segments c = omega (arith, cut-narrow _ _ _ c.self.invariant.cut, c.self.invariant.within, c.if-rules-self.false, ap length c.as_slice.ensures.value)
