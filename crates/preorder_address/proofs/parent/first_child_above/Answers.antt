use Rattle.std.proofs.Common.{arith, refl}
use Rattle.slt_grammar.specs.Keyed.{rules_of}
use Rattle.preorder_address.proofs.Rising.{edge-is, rising-few, rising-next, rising-root, rising-steps, rising-told}
use Rattle.preorder_address.proofs.parent.first_child_above.Goals as goal

pub enters-requires : goal.enters-requires
enters-requires g c =
    let a = c.args in
    let i = c.loop-edge.invariant in
    let e = edge-is a.grammar.now c.requires.keyed a.key c.loop-edge.at a.steps.now c.loop-edge.steps i c.in-Some.edge (c.in-Some.ensures.parent i.rule i.place i.there) c.in-Some.ensures.node in
    record { counts = (rules_of a.grammar.now.rules, c.requires.keyed.grammar, c.requires.counts, e.calls, omega (arith, e.kid, e.arity_is)) }

pub returns-then-enters-clause-tells : goal.returns-then-enters-clause-tells
returns-then-enters-clause-tells g c = λ r p h.
    let a = c.args in
    let i = c.loop-edge.invariant in
    let f = c.in-Some.ensures.parent i.rule i.place i.there in
    let e = edge-is a.grammar.now c.requires.keyed a.key c.loop-edge.at a.steps.now c.loop-edge.steps i c.in-Some.edge f c.in-Some.ensures.node in
    let y = c.if-enters.ensures.yes refl (rules_of a.grammar.now.rules) c.requires.keyed.grammar c.requires.counts e.calls (omega (arith, e.kid, e.arity_is)) in
    rising-told a.grammar.now c.requires.keyed a.key c.loop-edge.at a.steps.now c.loop-edge.steps i c.in-Some.edge f c.in-Some.ensures.node y r p h

pub returns-then-enters-clause-steps : goal.returns-then-enters-clause-steps
returns-then-enters-clause-steps g c = λ r p h.
    let a = c.args in
    omega (arith, rising-steps a.grammar.now c.requires.keyed a.key c.loop-edge.at a.steps.now c.loop-edge.steps c.loop-edge.invariant r p h, c.in-Some.ensures.steps)

pub loop-edge-smaller : goal.loop-edge-smaller
loop-edge-smaller g c =
    let a = c.args in
    omega (arith, rising-few a.grammar.now c.requires.keyed a.key c.loop-edge.at a.steps.now c.loop-edge.steps c.loop-edge.invariant, c.in-Some.ensures.more)

pub loop-edge-preserved : goal.loop-edge-preserved
loop-edge-preserved g c =
    let a = c.args in
    let i = c.loop-edge.invariant in
    let f = c.in-Some.ensures.parent i.rule i.place i.there in
    let e = edge-is a.grammar.now c.requires.keyed a.key c.loop-edge.at a.steps.now c.loop-edge.steps i c.in-Some.edge f c.in-Some.ensures.node in
    let n = c.if-enters.ensures.no refl (rules_of a.grammar.now.rules) c.requires.keyed.grammar c.requires.counts e.calls (omega (arith, e.kid, e.arity_is)) in
    rising-next a.grammar.now c.requires.keyed a.key c.loop-edge.at a.steps.now c.loop-edge.steps i c.in-Some.edge f c.in-Some.ensures.node n c.edge_above.new.steps c.in-Some.ensures.steps

pub returns-clause-tells : goal.returns-clause-tells
returns-clause-tells g c = λ r p h.
    let a = c.args in
    let i = c.loop-edge.invariant in
    rising-root a.grammar.now c.requires.keyed a.key c.loop-edge.at a.steps.now c.loop-edge.steps i (c.in_default.ensures.parent i.rule i.place i.there) r p h

pub returns-clause-steps : goal.returns-clause-steps
returns-clause-steps g c = λ r p h.
    let a = c.args in
    omega (arith, rising-steps a.grammar.now c.requires.keyed a.key c.loop-edge.at a.steps.now c.loop-edge.steps c.loop-edge.invariant r p h, c.in_default.ensures.steps)
