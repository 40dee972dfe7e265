use Rattle.std.proofs.Common.{◌+◌, arith, drop, take, set, subst, sym, get_or, ℕ, ap, refl}
use Rattle.rule_arena.specs.Terms.{Node}
use Rattle.slt_grammar.specs.Keyed.{nodes_at, rules_of}
use Rattle.std.specs.Prelude.{sum}
use Rattle.preorder_address.specs.Sites.{term_weights}
use Rattle.preorder_address.specs.Weighing.{passed, weight_of}
use Rattle.preorder_address.specs.declared.site.KidPlace.{KidPlace}
use Rattle.preorder_address.proofs.KidWalking.{KidsWalking, kids-start, kid-few, some-next, next-there, node-facts, terms-left, few-params, sum-within, kids-next, kids-some, kids-steps, kids-nearer}
use Rattle.preorder_address.proofs.KidWeighing.{no_weights, zeros}
use Rattle.preorder_address.proofs.Weighers.{small-call}
use Rattle.preorder_address.proofs.site.first_kid_weights.Goals as goal

pub node_of-label-requires : goal.node_of-label-requires
node_of-label-requires g c = c.requires.there

pub next_in_preorder-next-requires : goal.next_in_preorder-next-requires
next_in_preorder-next-requires g c = c.requires.there

pub loop-place-init : goal.loop-place-init
loop-place-init g c =
    let a = c.args in
    let h = c.requires.there in
    let x : Node = record { key = a.key; label = c.node_of-label.result.0; kids = c.node_of-label.result.1 } in
    kids-start a.grammar.now c.requires.keyed (weight_of a.weigher.now) a.args.now a.params a.key c.node_of-label.result.1 h.0 h.1 x (c.node_of-label.ensures.node h.0 h.1 h.2) refl refl c.requires.few
    c.next_in_preorder-next.result (c.next_in_preorder-next.ensures.next h.0 h.1 h.2) no_weights zeros refl c.next_in_preorder-next.new.steps

pub unreachable-requires : goal.unreachable-requires
unreachable-requires g c =
    let a = c.args in
    some-next a.grammar.now c.requires.keyed (weight_of a.weigher.now) a.args.now a.params a.key c.node_of-label.result.1 c.loop-place.next c.loop-place.place c.loop-place.param c.loop-place.weights c.next_in_preorder-next.new.steps c.loop-place.steps c.loop-place.invariant (omega (arith, c.loop-place-test.true, c.lesser-end.ensures.under)) c.in_default.is

pub node_weight-requires-clause-few : goal.node_weight-requires-clause-few
node_weight-requires-clause-few g c =
    let a = c.args in
    let y : Node = record { key = c.in-Some.node; label = c.node_of-label-in-loop-place.result.0; kids = c.node_of-label-in-loop-place.result.1 } in
    let f = node-facts a.grammar.now c.requires.keyed (weight_of a.weigher.now) a.args.now a.params a.key c.node_of-label.result.1 c.loop-place.next c.loop-place.place c.loop-place.param c.loop-place.weights c.next_in_preorder-next.new.steps c.loop-place.steps c.loop-place.invariant (omega (arith, c.loop-place-test.true, c.lesser-end.ensures.under)) c.in-Some.node c.in-Some.is y c.node_of-label-in-loop-place.ensures.node in
    omega (arith, f.few)

pub node_weight-requires-clause-small : goal.node_weight-requires-clause-small
node_weight-requires-clause-small g c =
    let a = c.args in
    let y : Node = record { key = c.in-Some.node; label = c.node_of-label-in-loop-place.result.0; kids = c.node_of-label-in-loop-place.result.1 } in
    let f = node-facts a.grammar.now c.requires.keyed (weight_of a.weigher.now) a.args.now a.params a.key c.node_of-label.result.1 c.loop-place.next c.loop-place.place c.loop-place.param c.loop-place.weights c.next_in_preorder-next.new.steps c.loop-place.steps c.loop-place.invariant (omega (arith, c.loop-place-test.true, c.lesser-end.ensures.under)) c.in-Some.node c.in-Some.is y c.node_of-label-in-loop-place.ensures.node in
    small-call (rules_of a.grammar.now.rules) a.counts.now a.weigher.now c.requires.counts c.requires.keyed.grammar y.label y.kids f.calls f.kids

pub offset_bounds-weights-place : goal.offset_bounds-weights-place
offset_bounds-weights-place g c =
    let a = c.args in
    let f = kid-few a.grammar.now c.requires.keyed (weight_of a.weigher.now) a.args.now a.params a.key c.node_of-label.result.1 c.loop-place.next c.loop-place.place c.loop-place.param c.loop-place.weights c.next_in_preorder-next.new.steps c.loop-place.steps c.loop-place.invariant (omega (arith, c.loop-place-test.true, c.lesser-end.ensures.under)) in
    omega (arith, f)

pub bounds-weights-place : goal.bounds-weights-place
bounds-weights-place g c =
    let a = c.args in
    kid-few a.grammar.now c.requires.keyed (weight_of a.weigher.now) a.args.now a.params a.key c.node_of-label.result.1 c.loop-place.next c.loop-place.place c.loop-place.param c.loop-place.weights c.next_in_preorder-next.new.steps c.loop-place.steps c.loop-place.invariant (omega (arith, c.loop-place-test.true, c.lesser-end.ensures.under))

pub bounds-weights-place-in-loop-place : goal.bounds-weights-place-in-loop-place
bounds-weights-place-in-loop-place g c =
    let a = c.args in
    kid-few a.grammar.now c.requires.keyed (weight_of a.weigher.now) a.args.now a.params a.key c.node_of-label.result.1 c.loop-place.next c.loop-place.place c.loop-place.param c.loop-place.weights c.next_in_preorder-next.new.steps c.loop-place.steps c.loop-place.invariant (omega (arith, c.loop-place-test.true, c.lesser-end.ensures.under))

pub overflow_add-weights : goal.overflow_add-weights
overflow_add-weights g c =
    let a = c.args in
    let y : Node = record { key = c.in-Some.node; label = c.node_of-label-in-loop-place.result.0; kids = c.node_of-label-in-loop-place.result.1 } in
    let f = node-facts a.grammar.now c.requires.keyed (weight_of a.weigher.now) a.args.now a.params a.key c.node_of-label.result.1 c.loop-place.next c.loop-place.place c.loop-place.param c.loop-place.weights c.next_in_preorder-next.new.steps c.loop-place.steps c.loop-place.invariant (omega (arith, c.loop-place-test.true, c.lesser-end.ensures.under)) c.in-Some.node c.in-Some.is y c.node_of-label-in-loop-place.ensures.node in
    let o = c.node_weight.ensures (rules_of a.grammar.now.rules) c.requires.keyed.grammar c.requires.counts f.calls f.kids in
    let s = sum-within a.grammar.now c.requires.keyed (weight_of a.weigher.now) a.args.now a.params a.key c.node_of-label.result.1 c.loop-place.next c.loop-place.place c.loop-place.param c.loop-place.weights c.next_in_preorder-next.new.steps c.loop-place.steps c.loop-place.invariant (omega (arith, c.loop-place-test.true, c.lesser-end.ensures.under)) c.in-Some.node c.in-Some.is y c.node_of-label-in-loop-place.ensures.node c.node_weight.result o in
    let i = c.loop-place.invariant in
    let m = c.requires.small i.rule i.at i.node i.here i.key_is in
    let z = ap (λ k. sum (take k (term_weights (weight_of a.weigher.now) (rules_of a.grammar.now.rules) (drop a.params a.args.now) (drop (i.at + 1) (nodes_at a.grammar.now.rules i.rule))))) i.kids_are in
    omega (arith, s, m, z)

pub overflow_add-param : goal.overflow_add-param
overflow_add-param g c =
    let a = c.args in
    let y : Node = record { key = c.in-Some.node; label = c.node_of-label-in-loop-place.result.0; kids = c.node_of-label-in-loop-place.result.1 } in
    let f = node-facts a.grammar.now c.requires.keyed (weight_of a.weigher.now) a.args.now a.params a.key c.node_of-label.result.1 c.loop-place.next c.loop-place.place c.loop-place.param c.loop-place.weights c.next_in_preorder-next.new.steps c.loop-place.steps c.loop-place.invariant (omega (arith, c.loop-place-test.true, c.lesser-end.ensures.under)) c.in-Some.node c.in-Some.is y c.node_of-label-in-loop-place.ensures.node in
    let p = few-params a.grammar.now c.requires.keyed (weight_of a.weigher.now) a.args.now a.params a.key c.node_of-label.result.1 c.loop-place.next c.loop-place.place c.loop-place.param c.loop-place.weights c.next_in_preorder-next.new.steps c.loop-place.steps c.loop-place.invariant (omega (arith, c.loop-place-test.true, c.lesser-end.ensures.under)) c.in-Some.node c.in-Some.is y c.node_of-label-in-loop-place.ensures.node in
    let n = f.whole_few in
    let w = c.requires.keyed.few in
    let e = c.params_of-param.ensures in
    omega (arith, p, n, w, e)

pub pass-place-requires-clause-few : goal.pass-place-requires-clause-few
pass-place-requires-clause-few g c =
    let a = c.args in
    let y : Node = record { key = c.in-Some.node; label = c.node_of-label-in-loop-place.result.0; kids = c.node_of-label-in-loop-place.result.1 } in
    let f = node-facts a.grammar.now c.requires.keyed (weight_of a.weigher.now) a.args.now a.params a.key c.node_of-label.result.1 c.loop-place.next c.loop-place.place c.loop-place.param c.loop-place.weights c.next_in_preorder-next.new.steps c.loop-place.steps c.loop-place.invariant (omega (arith, c.loop-place-test.true, c.lesser-end.ensures.under)) c.in-Some.node c.in-Some.is y c.node_of-label-in-loop-place.ensures.node in
    let t = terms-left a.grammar.now c.requires.keyed (weight_of a.weigher.now) a.args.now a.params a.key c.node_of-label.result.1 c.loop-place.next c.loop-place.place c.loop-place.param c.loop-place.weights c.next_in_preorder-next.new.steps c.loop-place.steps c.loop-place.invariant (omega (arith, c.loop-place-test.true, c.lesser-end.ensures.under)) c.in-Some.node c.in-Some.is y c.node_of-label-in-loop-place.ensures.node in
    let n = f.whole_few in
    let w = c.requires.keyed.few in
    omega (arith, t, n, w)

pub pass-place-requires-clause-kid : goal.pass-place-requires-clause-kid
pass-place-requires-clause-kid g c =
    let a = c.args in
    kid-few a.grammar.now c.requires.keyed (weight_of a.weigher.now) a.args.now a.params a.key c.node_of-label.result.1 c.loop-place.next c.loop-place.place c.loop-place.param c.loop-place.weights c.next_in_preorder-next.new.steps c.loop-place.steps c.loop-place.invariant (omega (arith, c.loop-place-test.true, c.lesser-end.ensures.under))

pub pass-place-requires-clause-some : goal.pass-place-requires-clause-some
pass-place-requires-clause-some g c = c.loop-place.invariant.weighs.some

pub loop-place-smaller : goal.loop-place-smaller
loop-place-smaller g c =
    let a = c.args in
    let n = kids-nearer a.grammar.now c.requires.keyed (weight_of a.weigher.now) a.args.now a.params a.key c.node_of-label.result.1 c.loop-place.next c.loop-place.place c.loop-place.param c.loop-place.weights c.next_in_preorder-next.new.steps c.loop-place.steps c.loop-place.invariant (omega (arith, c.loop-place-test.true, c.lesser-end.ensures.under)) in
    omega (arith, n, c.node_of-label-in-loop-place.ensures.step, c.next_in_preorder-next-in-loop-place.ensures.step)

pub loop-place-preserved : goal.loop-place-preserved
loop-place-preserved g c =
    let a = c.args in
    let y : Node = record { key = c.in-Some.node; label = c.node_of-label-in-loop-place.result.0; kids = c.node_of-label-in-loop-place.result.1 } in
    let f = node-facts a.grammar.now c.requires.keyed (weight_of a.weigher.now) a.args.now a.params a.key c.node_of-label.result.1 c.loop-place.next c.loop-place.place c.loop-place.param c.loop-place.weights c.next_in_preorder-next.new.steps c.loop-place.steps c.loop-place.invariant (omega (arith, c.loop-place-test.true, c.lesser-end.ensures.under)) c.in-Some.node c.in-Some.is y c.node_of-label-in-loop-place.ensures.node in
    let o = c.node_weight.ensures (rules_of a.grammar.now.rules) c.requires.keyed.grammar c.requires.counts f.calls f.kids in
    let i = c.loop-place.invariant in
    let n = kids-next a.grammar.now c.requires.keyed (weight_of a.weigher.now) a.args.now a.params a.key c.node_of-label.result.1 c.loop-place.next c.loop-place.place c.loop-place.param c.loop-place.weights c.next_in_preorder-next.new.steps c.loop-place.steps c.loop-place.invariant (omega (arith, c.loop-place-test.true, c.lesser-end.ensures.under)) c.in-Some.node c.in-Some.is y c.node_of-label-in-loop-place.ensures.node c.node_weight.result o c.next_in_preorder-next-in-loop-place.result (c.next_in_preorder-next-in-loop-place.ensures.next i.rule i.come (next-there a.grammar.now c.requires.keyed (weight_of a.weigher.now) a.args.now a.params a.key c.node_of-label.result.1 c.loop-place.next c.loop-place.place c.loop-place.param c.loop-place.weights c.next_in_preorder-next.new.steps c.loop-place.steps c.loop-place.invariant (omega (arith, c.loop-place-test.true, c.lesser-end.ensures.under)) c.in-Some.node c.in-Some.is)) c.next_in_preorder-next-in-loop-place.new.steps (omega (arith, c.node_of-label-in-loop-place.ensures.step, c.next_in_preorder-next-in-loop-place.ensures.step)) in
    let ws = set c.loop-place.weights c.loop-place.place.kid (get_or c.loop-place.weights c.loop-place.place.kid 0 + c.node_weight.result) in
    subst (λ (q : KidPlace). KidsWalking a.grammar.now.rules (weight_of a.weigher.now) a.args.now a.params a.key c.node_of-label.result.1 c.next_in_preorder-next-in-loop-place.result q (c.loop-place.param + c.params_of-param.result) ws c.next_in_preorder-next.new.steps c.next_in_preorder-next-in-loop-place.new.steps) (sym c.pass-place.ensures)
    (subst (λ (n : ℕ). KidsWalking a.grammar.now.rules (weight_of a.weigher.now) a.args.now a.params a.key c.node_of-label.result.1 c.next_in_preorder-next-in-loop-place.result (passed c.loop-place.place y.kids) (c.loop-place.param + n) ws c.next_in_preorder-next.new.steps c.next_in_preorder-next-in-loop-place.new.steps) (sym c.params_of-param.ensures) n)

pub returns-clause-weights : goal.returns-clause-weights
returns-clause-weights g c = λ r p x e f j h.
    let a = c.args in
    kids-some a.grammar.now c.requires.keyed (weight_of a.weigher.now) a.args.now a.params a.key c.node_of-label.result.1 c.loop-place.next c.loop-place.place c.loop-place.param c.loop-place.weights c.next_in_preorder-next.new.steps c.loop-place.steps c.loop-place.invariant a.limit (λ i l b. c.lesser-end.ensures.reached i (omega (arith, l, c.loop-place-test.false)) b) r p x e f j h

pub returns-clause-steps : goal.returns-clause-steps
returns-clause-steps g c = λ r p e.
    let a = c.args in
    let s = kids-steps a.grammar.now c.requires.keyed (weight_of a.weigher.now) a.args.now a.params a.key c.node_of-label.result.1 c.loop-place.next c.loop-place.place c.loop-place.param c.loop-place.weights c.next_in_preorder-next.new.steps c.loop-place.steps c.loop-place.invariant r p e in
    omega (arith, s, c.node_of-label.ensures.step, c.next_in_preorder-next.ensures.step)
