use Rattle.std.proofs.Common.{◌≡◌, ◌∙◌, ◌-◌, ap, arith, length, sym, ℕ, subst, List, []}
use Rattle.std.specs.Prelude.{slice_get}
use Rattle.segment_counts.specs.Weights.{node_weight}
use Rattle.slt_grammar.specs.Keyed.{rules_of}
use Rattle.slt_grammar.specs.Segments.{preorder}
use Rattle.slt_grammar.specs.declared.level.Level.{Level}
use Rattle.preorder_address.specs.Sites.{weight_below}
use Rattle.preorder_address.proofs.Extending.{Extending, all-added, below-small, extending-next, extending-start, first_kid, level-there, none-left}
use Rattle.preorder_address.proofs.TreeSpots.{spot-extent, spot-number}
use Rattle.preorder_address.proofs.spot.Spot.extent.Goals as goal

pub loop-left-init : goal.loop-left-init
loop-left-init g c =
    let a = c.args in
    let t = c.requires.spot in
    let n = spot-number t.0 a.grammar.now.rules t.1 a.self.now.levels.items a.self.now.symbol a.self.now.before t.2 in
    let l : length a.self.now.levels.items ≡ length c.as_slice-levels.result.now = ap length (sym c.as_slice-levels.ensures.value) in
    subst (λ (k : ℕ). Extending a.grammar.now a.self.now.before.nodes a.self.now.levels.items k first_kid 0 a.steps.now a.steps.now) l
    (subst (λ (k : ℕ). Extending a.grammar.now k a.self.now.levels.items (length a.self.now.levels.items) first_kid 0 a.steps.now a.steps.now) n
    (extending-start a.grammar.now c.limit-limit.ensures.keyed t.0 t.1 a.self.now.levels.items a.self.now.symbol a.self.now.before t.2 a.steps.now))

pub returns-then-range-eq0-clause-extent : goal.returns-then-range-eq0-clause-extent
returns-then-range-eq0-clause-extent g c = λ names number t s code.
    let a = c.args in
    let n = spot-number names a.grammar.now.rules number a.self.now.levels.items a.self.now.symbol a.self.now.before s in
    let e = all-added a.grammar.now c.limit-limit.ensures.keyed a.self.now.before.nodes a.self.now.levels.items c.loop-left.left c.loop-left.range c.loop-left.below a.steps.now c.loop-left.steps c.loop-left.invariant (omega (arith, c.if-range-eq0.true)) in
    spot-extent names a.grammar.now.rules t code number a.self.now.levels.items a.self.now.symbol a.self.now.before s c.loop-left.below (e ∙ ap (weight_below node_weight [] (preorder (rules_of a.grammar.now.rules) (length a.grammar.now.rules - 1))) (sym n))

pub returns-clause-extent : goal.returns-clause-extent
returns-clause-extent g c = λ names number t s code.
    let a = c.args in
    let n = spot-number names a.grammar.now.rules number a.self.now.levels.items a.self.now.symbol a.self.now.before s in
    let e = all-added a.grammar.now c.limit-limit.ensures.keyed a.self.now.before.nodes a.self.now.levels.items c.loop-left.left c.loop-left.range c.loop-left.below a.steps.now c.loop-left.steps c.loop-left.invariant (none-left a.grammar.now c.limit-limit.ensures.keyed a.self.now.before.nodes a.self.now.levels.items c.loop-left.left c.loop-left.range c.loop-left.below a.steps.now c.loop-left.steps c.loop-left.invariant (omega (arith, c.loop-left-test.false))) in
    spot-extent names a.grammar.now.rules t code number a.self.now.levels.items a.self.now.symbol a.self.now.before s c.loop-left.below (e ∙ ap (weight_below node_weight [] (preorder (rules_of a.grammar.now.rules) (length a.grammar.now.rules - 1))) (sym n))

pub range_weight-weight-requires-clause-there : goal.range_weight-weight-requires-clause-there
range_weight-weight-requires-clause-there g c =
    let a = c.args in
    level-there a.grammar.now c.limit-limit.ensures.keyed a.self.now.before.nodes a.self.now.levels.items c.loop-left.left c.loop-left.range c.loop-left.below a.steps.now c.loop-left.steps c.loop-left.invariant (omega (arith, c.loop-left-test.true)) c.in-Some.level (ap (λ (ls : List Level). slice_get ls (c.loop-left.left - 1)) (sym c.as_slice-levels.ensures.value) ∙ sym c.in-Some.ensures)

pub overflow_add-below : goal.overflow_add-below
overflow_add-below g c =
    let a = c.args in
    let h = below-small a.grammar.now c.limit-limit.ensures.keyed a.self.now.before.nodes a.self.now.levels.items c.loop-left.left c.loop-left.range c.loop-left.below a.steps.now c.loop-left.steps c.loop-left.invariant (omega (arith, c.loop-left-test.true)) c.in-Some.level (ap (λ (ls : List Level). slice_get ls (c.loop-left.left - 1)) (sym c.as_slice-levels.ensures.value) ∙ sym c.in-Some.ensures) c.range_weight-weight.result c.range_weight-weight.ensures.weight a.counts.now c.requires.counts in
    omega (arith, h)

pub loop-left-preserved : goal.loop-left-preserved
loop-left-preserved g c =
    let a = c.args in
    extending-next a.grammar.now c.limit-limit.ensures.keyed a.self.now.before.nodes a.self.now.levels.items c.loop-left.left c.loop-left.range c.loop-left.below a.steps.now c.loop-left.steps c.loop-left.invariant (omega (arith, c.loop-left-test.true)) c.in-Some.level (ap (λ (ls : List Level). slice_get ls (c.loop-left.left - 1)) (sym c.as_slice-levels.ensures.value) ∙ sym c.in-Some.ensures) c.range_weight-weight.result c.range_weight-weight.ensures.weight c.range_weight-weight.new.steps c.range_weight-weight.ensures.steps
