use Rattle.std.proofs.Common.{sym, ◌∙◌}
use Rattle.digram_index.proofs.Behind.{above-stands, climbing-begins, climbing-ends, climbing-falls, climbing-finds, climbing-next}
use Rattle.digram_index.proofs.reading.behind.Goals as goal

pub loop-above-init : goal.loop-above-init
loop-above-init c =
    climbing-begins c.args.grammar.now c.limit-limit.ensures.keyed c.args.key c.requires.0 c.requires.1 c.parent_of-above.result c.requires.2 (c.parent_of-above.ensures c.requires.0 c.requires.1 c.requires.2)

pub child_of-next-requires : goal.child_of-next-requires
child_of-next-requires c =
    let I = rw c.in-Some.is at c.loop-above.invariant in
    let w = above-stands c.args.grammar.now c.limit-limit.ensures.keyed c.args.key c.in-Some.link.0 c.in-Some.link.1 I in
    (w.0, w.1.0, w.1.1)

pub parent_of-above-requires-in-Some : goal.parent_of-above-requires-in-Some
parent_of-above-requires-in-Some c =
    let I = rw c.in-Some.is at c.loop-above.invariant in
    let w = above-stands c.args.grammar.now c.limit-limit.ensures.keyed c.args.key c.in-Some.link.0 c.in-Some.link.1 I in
    (w.0, w.1.0, w.1.1)

pub returns-then-is_some : goal.returns-then-is_some
returns-then-is_some c =
    let I = rw c.in-Some.is at c.loop-above.invariant in
    climbing-finds c.args.grammar.now c.limit-limit.ensures.keyed c.args.key c.in-Some.link.0 c.in-Some.link.1 I c.child_of-next.result c.child_of-next.ensures (sym c.is_some.ensures ∙ c.if-is_some.true)

pub loop-above-smaller : goal.loop-above-smaller
loop-above-smaller c =
    let I = rw c.in-Some.is at c.loop-above.invariant in
    rw c.in-Some.is
    (climbing-falls c.args.grammar.now c.limit-limit.ensures.keyed c.args.key c.in-Some.link.0 c.in-Some.link.1 I c.child_of-next.result c.parent_of-above-in-Some.result c.child_of-next.ensures c.parent_of-above-in-Some.ensures)

pub loop-above-preserved : goal.loop-above-preserved
loop-above-preserved c =
    let I = rw c.in-Some.is at c.loop-above.invariant in
    climbing-next c.args.grammar.now c.limit-limit.ensures.keyed c.args.key c.in-Some.link.0 c.in-Some.link.1 I c.child_of-next.result c.parent_of-above-in-Some.result c.child_of-next.ensures c.parent_of-above-in-Some.ensures
    (sym c.is_some.ensures ∙ c.if-is_some.false)

pub returns : goal.returns
returns c =
    let I = rw c.in_default.is at c.loop-above.invariant in
    climbing-ends c.args.grammar.now c.limit-limit.ensures.keyed c.args.key I
