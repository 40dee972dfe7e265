use Rattle.std.proofs.Common.{◌≡◌, ◌<◌, ℕ, zero, suc, [], ◌∷◌, Some, get_or, slice_get, length, refl, sym, subst, arith, List}
use Rattle.rule_arena.specs.declared.label.Label.{Label}
use Rattle.rule_arena.specs.declared.label.Label.TheVariants.{Bottom}
use Rattle.rule_arena.specs.Terms.{Node}
use Rattle.slt_grammar.proofs.Shapings.{AreShaped, shaped-none, shaped-more, shaped-all, below-at}
use Rattle.slt_grammar.proofs.shaping.read_body.Goals as goal

pub loop-i-init : goal.loop-i-init
loop-i-init c = record {
  shaped = subst (λ (xs : List Node). AreShaped c.args.order.now.order c.args.ranks.now c.args.key c.args.body.now xs 0) (sym c.clear.ensures.items) (shaped-none c.args.order.now.order c.args.ranks.now c.args.key c.args.body.now);
  capacity = omega (arith, c.clear.ensures.capacity);
}

there : (ls : List Label) (i : ℕ) → i < length ls → slice_get ls i ≡ Some (get_or ls i Bottom)
there [] i h = absurd (omega arith)
there (l ∷ ls) zero h = refl
there (l ∷ ls) (suc i) h = there ls i (omega arith)

pub shape_of_label-requires-clause-below : goal.shape_of_label-requires-clause-below
shape_of_label-requires-clause-below c =
    below-at (length c.args.order.now.order) c.args.body.now c.loop-i.i (get_or c.args.body.now c.loop-i.i Bottom) c.requires.below (there c.args.body.now c.loop-i.i c.loop-i-test.true)

pub loop-i-preserved : goal.loop-i-preserved
loop-i-preserved c = record {
  shaped = shaped-more c.args.order.now.order c.args.ranks.now c.args.key c.args.body.now c.loop-i.shapes.items c.push.new.self.items c.loop-i.i (get_or c.args.body.now c.loop-i.i Bottom) c.shape_of_label.result c.loop-i.invariant.shaped
      (there c.args.body.now c.loop-i.i c.loop-i-test.true) c.shape_of_label.ensures.node c.shape_of_label.ensures.known c.in_ok-push.ensures.items;
  capacity = omega (arith, c.loop-i.invariant.capacity, c.push.ensures.capacity);
}

pub returns-in_err-push-clause-succeeds : goal.returns-in_err-push-clause-succeeds
returns-in_err-push-clause-succeeds c = λ h.
    absurd (omega (arith, c.loop-i-test.true, h, c.loop-i.invariant.shaped.many, c.loop-i.invariant.capacity, c.in_err-push.ensures.full, c.loop-i.shapes.ok))

pub returns-clause-shapes : goal.returns-clause-shapes
returns-clause-shapes c =
    shaped-all c.args.order.now.order c.args.ranks.now c.args.key c.args.body.now c.loop-i.shapes.items c.loop-i.i c.loop-i.invariant.shaped (omega (arith, c.loop-i-test.false, c.loop-i.auto.i-end))

pub returns-clause-known : goal.returns-clause-known
returns-clause-known c = c.loop-i.invariant.shaped.known
