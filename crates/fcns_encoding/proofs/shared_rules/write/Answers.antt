use Rattle.std.proofs.Common.{ap, length, arith}
use Rattle.fcns_encoding.proofs.SharingLemmas.{pending-whole, pending-over, writes-on, below-pop, below-over}
use Rattle.fcns_encoding.proofs.shared_rules.write.Goals as goal

pub writing_of-requires-clause-there : goal.writing_of-requires-clause-there
writing_of-requires-clause-there c =
    let b = below-pop c.args.at c.loop-number.stack.items c.pop.new.self.items c.in-Some.number c.in-Some.ensures.items c.loop-number.invariant.below in omega (arith, b.1, c.requires.there)

pub writing_of-requires-clause-places : goal.writing_of-requires-clause-places
writing_of-requires-clause-places c =
    let b = below-pop c.args.at c.loop-number.stack.items c.pop.new.self.items c.in-Some.number c.in-Some.ensures.items c.loop-number.invariant.below in (c.args.at, b.1, c.requires.places)

pub loop-number-smaller-in-Continue-branch-2 : goal.loop-number-smaller-in-Continue-branch-2
loop-number-smaller-in-Continue-branch-2 c =
    let e = ap length (pending-whole c.args.table.marks.now c.args.table.cells.now c.loop-number.stack.items c.pop.new.self.items c.in-Some.number c.in-Whole.label c.in-Some.ensures.items c.in-Whole.ensures) in omega (arith, e)

pub loop-number-preserved-in-Continue-branch-2 : goal.loop-number-preserved-in-Continue-branch-2
loop-number-preserved-in-Continue-branch-2 c =
    let b = below-pop c.args.at c.loop-number.stack.items c.pop.new.self.items c.in-Some.number c.in-Some.ensures.items c.loop-number.invariant.below in
    let e = pending-whole c.args.table.marks.now c.args.table.cells.now c.loop-number.stack.items c.pop.new.self.items c.in-Some.number c.in-Whole.label c.in-Some.ensures.items c.in-Whole.ensures in
    record { written = λ cell h. writes-on c.loop-number.body _ _ _ _ c.in-Whole.label (c.loop-number.invariant.written cell h) e c.in_ok-push-in-Whole.ensures.ok; below = b.0 }

pub loop-number-smaller : goal.loop-number-smaller
loop-number-smaller c =
    let e = ap length (pending-over c.args.table.marks.now c.args.table.cells.now c.loop-number.stack.items c.pop.new.self.items c.open-in-Over.new.stack.items c.in-Some.number c.in-Over.cell c.in-Some.ensures.items c.in-Over.ensures c.in_ok-open-in-Over.ensures.stack) in
    omega (arith, e)

pub loop-number-preserved : goal.loop-number-preserved
loop-number-preserved c =
    let b = below-pop c.args.at c.loop-number.stack.items c.pop.new.self.items c.in-Some.number c.in-Some.ensures.items c.loop-number.invariant.below in
    let e = pending-over c.args.table.marks.now c.args.table.cells.now c.loop-number.stack.items c.pop.new.self.items c.open-in-Over.new.stack.items c.in-Some.number c.in-Over.cell c.in-Some.ensures.items c.in-Over.ensures c.in_ok-open-in-Over.ensures.stack in
    record {
      written = λ cell h. writes-on c.loop-number.body _ _ _ _ _ (c.loop-number.invariant.written cell h) e c.in_ok-open-in-Over.ensures.body;
      below = below-over c.args.at c.pop.new.self.items _ c.in-Some.number c.in-Over.cell b.0 b.1 c.in-Over.ensures.1 c.in-Over.ensures.2 c.in_ok-open-in-Over.ensures.stack;
    }
