use Rattle.std.proofs.Common.{◌≡◌, ◌∙◌, ◌+◌, ◌∷◌, [], ℕ, Some, length, slice_get, ap, sym, refl, subst, arith}
use Rattle.std.proofs.lemmas.Option.{slice_get_read}
use Rattle.rule_arena.specs.Terms.{Node}
use Rattle.rule_arena.specs.declared.label.Label.{Label}
use Rattle.slt_grammar.specs.Bodies.{CallsBelow}
use Rattle.slt_grammar.specs.Placing.{placed_label, IsKnown}
use Rattle.slt_grammar.proofs.Dropped.{summed-more, summed-all, below-placed, params-few}
use Rattle.slt_grammar.proofs.Orders.{place-within}
use Rattle.slt_grammar.proofs.Seen.{known-node}
use Rattle.slt_grammar.proofs.counting.add_shapes.Goals as goal

pub place_label-label-requires : goal.place_label-label-requires
place_label-label-requires c =
    let e : slice_get c.args.shapes.now c.loop-i.i ≡ Some c.index-shapes-i.result = slice_get_read c.args.shapes.now (length c.args.shapes.now) c.loop-i.i c.index-shapes-i.result refl c.loop-i-test.true c.index-shapes-i.is in
    subst (λ (n : Node). IsKnown c.args.order.now.order n.label) (sym c.shape.view_is) (known-node c.args.order.now.order c.args.shapes.now c.loop-i.i c.index-shapes-i.result e c.requires.known)

pub add_calls-requires-clause-there : goal.add_calls-requires-clause-there
add_calls-requires-clause-there c =
    let I = c.loop-i.invariant in
    let e : slice_get c.args.shapes.now c.loop-i.i ≡ Some c.index-shapes-i.result = slice_get_read c.args.shapes.now (length c.args.shapes.now) c.loop-i.i c.index-shapes-i.result refl c.loop-i-test.true c.index-shapes-i.is in
    let k : IsKnown c.args.order.now.order c.shape.inside.label = subst (λ (n : Node). IsKnown c.args.order.now.order n.label) (sym c.shape.view_is) (known-node c.args.order.now.order c.args.shapes.now c.loop-i.i c.index-shapes-i.result e c.requires.known) in
    subst (λ (l : Label). CallsBelow (length c.loop-i.calls) (l ∷ [])) (sym c.place_label-label.ensures)
    (below-placed c.args.order.now.order (length c.loop-i.calls) c.shape.inside.label (omega (arith, c.requires.len, I.len)) k (place-within c.args.order.now.order))

more : goal.loop-i-preserved
more c =
    let e : slice_get c.args.shapes.now c.loop-i.i ≡ Some c.index-shapes-i.result = slice_get_read c.args.shapes.now (length c.args.shapes.now) c.loop-i.i c.index-shapes-i.result refl c.loop-i-test.true c.index-shapes-i.is in
    summed-more c.args.order.now.order c.args.shapes.now c.args.calls.now c.loop-i.calls c.add_calls.new.calls c.loop-i.i c.loop-i.params (c.loop-i.params + c.count_params-params.result) c.index-shapes-i.result c.place_label-label.result
    c.loop-i.invariant e (c.place_label-label.ensures ∙ ap (λ (n : Node). placed_label c.args.order.now.order n.label) c.shape.view_is) c.add_calls.auto.calls c.add_calls.ensures (ap (λ (k : ℕ). c.loop-i.params + k) c.count_params-params.ensures)

pub loop-i-preserved : goal.loop-i-preserved
loop-i-preserved c = more c

pub overflow_add-params : goal.overflow_add-params
overflow_add-params c =
    let e : slice_get c.args.shapes.now c.loop-i.i ≡ Some c.index-shapes-i.result = slice_get_read c.args.shapes.now (length c.args.shapes.now) c.loop-i.i c.index-shapes-i.result refl c.loop-i-test.true c.index-shapes-i.is in
    let E = summed-more c.args.order.now.order c.args.shapes.now c.args.calls.now c.loop-i.calls c.add_calls.new.calls c.loop-i.i c.loop-i.params (c.loop-i.params + c.count_params-params.result) c.index-shapes-i.result c.place_label-label.result
    c.loop-i.invariant e (c.place_label-label.ensures ∙ ap (λ (n : Node). placed_label c.args.order.now.order n.label) c.shape.view_is) c.add_calls.auto.calls c.add_calls.ensures (ap (λ (k : ℕ). c.loop-i.params + k) c.count_params-params.ensures) in
    omega (arith, E.holes_are, params-few c.args.order.now.order c.args.shapes.now)

pub overflow_sub-result : goal.overflow_sub-result
overflow_sub-result c =
    (summed-all c.args.order.now.order c.args.shapes.now c.args.calls.now c.loop-i.calls c.loop-i.i c.loop-i.params c.loop-i.invariant (omega (arith, c.loop-i-test.false, c.loop-i.auto.i-end))).2

pub returns-clause-calls : goal.returns-clause-calls
returns-clause-calls c =
    (summed-all c.args.order.now.order c.args.shapes.now c.args.calls.now c.loop-i.calls c.loop-i.i c.loop-i.params c.loop-i.invariant (omega (arith, c.loop-i-test.false, c.loop-i.auto.i-end))).0

pub returns-clause-real : goal.returns-clause-real
returns-clause-real c =
    (summed-all c.args.order.now.order c.args.shapes.now c.args.calls.now c.loop-i.calls c.loop-i.i c.loop-i.params c.loop-i.invariant (omega (arith, c.loop-i-test.false, c.loop-i.auto.i-end))).1
