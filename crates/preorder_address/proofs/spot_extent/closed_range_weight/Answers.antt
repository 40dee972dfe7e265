use Rattle.std.proofs.Common.{ℕ, ◌+◌, ◌-◌, ◌∙◌, ◌<◌, ◌^◌, Some, arith, ap, drop, sym, take}
use Rattle.std.specs.Prelude.{sum}
use Rattle.rule_arena.specs.Terms.{Node}
use Rattle.slt_grammar.specs.Keyed.{nodes_at, rules_of}
use Rattle.slt_grammar.proofs.TourWalking.{node-key}
use Rattle.segment_counts.specs.Weights.{node_weight}
use Rattle.preorder_address.specs.Ranges.{WeighsRange}
use Rattle.preorder_address.specs.Sites.{term_weights}
use Rattle.preorder_address.specs.declared.spot_extent.RangeWeight.{RangeWeight}
use Rattle.preorder_address.proofs.KidWalking.{is-node}
use Rattle.preorder_address.proofs.KidWeighing.{no_weights}
use Rattle.preorder_address.proofs.RangeSums.{alone, no-spots, none-before, own-small, own-under, same-node, weighs-range, weights-sum}
use Rattle.preorder_address.proofs.spot_extent.closed_range_weight.Goals as goal

pub overflow_add-end : goal.overflow_add-end
overflow_add-end g c =
    let a = c.args in
    let t = c.requires.there in
    omega (arith, t.5, (is-node a.grammar.now c.requires.keyed a.rule t.0 t.1 t.2).few)

pub first_kid_weights-weights-requires-clause-there : goal.first_kid_weights-weights-requires-clause-there
first_kid_weights-weights-requires-clause-there g c =
    let a = c.args in
    let t = c.requires.there in
    (a.rule, t.0, node-key (nodes_at a.grammar.now.rules a.rule) t.0 t.1 t.2 ∙ ap Some t.3)

pub first_kid_weights-weights-requires-clause-small : goal.first_kid_weights-weights-requires-clause-small
first_kid_weights-weights-requires-clause-small g c =
    let a = c.args in
    let t = c.requires.there in
    same-node a.grammar.now c.requires.keyed a.key a.rule t.0 t.1 t.2 t.3 (λ (r p : ℕ) (x : Node). sum (take x.kids (term_weights node_weight (rules_of a.grammar.now.rules) no_weights (drop (p + 1) (nodes_at a.grammar.now.rules r)))) < 2 ^ 64)
    (omega (arith, alone a.grammar.now c.requires.keyed a.rule t.0 t.1 t.2 t.4 t.1.kids (omega arith), own-small a.grammar.now c.requires.keyed a.rule t.0 t.1 t.2 t.4 a.counts.now c.requires.counts t.1.kids (omega arith)))

pub sum_of-skipped-requires-clause-few : goal.sum_of-skipped-requires-clause-few
sum_of-skipped-requires-clause-few g c =
    let a = c.args in
    let t = c.requires.there in
    omega (arith, t.5, (is-node a.grammar.now c.requires.keyed a.rule t.0 t.1 t.2).few)

pub sum_of-skipped-requires-clause-small : goal.sum_of-skipped-requires-clause-small
sum_of-skipped-requires-clause-small g c =
    let a = c.args in
    let t = c.requires.there in
    omega (arith, weights-sum a.grammar.now c.requires.keyed a.rule t.0 t.1 t.2 t.4 c.first_kid_weights-weights.result (a.range.first + a.range.count) t.5 (λ j l. c.first_kid_weights-weights.ensures.weights a.rule t.0 t.1 t.2 t.3 j l) a.range.first (omega arith), own-small a.grammar.now c.requires.keyed a.rule t.0 t.1 t.2 t.4 a.counts.now c.requires.counts a.range.first (omega (arith, t.5)))

pub sum_of-nodes-requires-clause-few : goal.sum_of-nodes-requires-clause-few
sum_of-nodes-requires-clause-few g c =
    let a = c.args in
    let t = c.requires.there in
    omega (arith, t.5, (is-node a.grammar.now c.requires.keyed a.rule t.0 t.1 t.2).few)

pub sum_of-nodes-requires-clause-small : goal.sum_of-nodes-requires-clause-small
sum_of-nodes-requires-clause-small g c =
    let a = c.args in
    let t = c.requires.there in
    omega (arith, weights-sum a.grammar.now c.requires.keyed a.rule t.0 t.1 t.2 t.4 c.first_kid_weights-weights.result (a.range.first + a.range.count) t.5 (λ j l. c.first_kid_weights-weights.ensures.weights a.rule t.0 t.1 t.2 t.3 j l) (a.range.first + a.range.count) (omega arith), own-small a.grammar.now c.requires.keyed a.rule t.0 t.1 t.2 t.4 a.counts.now c.requires.counts (a.range.first + a.range.count) (omega (arith, t.5)))

pub overflow_sub-result : goal.overflow_sub-result
overflow_sub-result g c =
    let a = c.args in
    let t = c.requires.there in
    omega (arith, c.sum_of-skipped.ensures, c.sum_of-nodes.ensures, weights-sum a.grammar.now c.requires.keyed a.rule t.0 t.1 t.2 t.4 c.first_kid_weights-weights.result (a.range.first + a.range.count) t.5 (λ j l. c.first_kid_weights-weights.ensures.weights a.rule t.0 t.1 t.2 t.3 j l) a.range.first (omega arith), weights-sum a.grammar.now c.requires.keyed a.rule t.0 t.1 t.2 t.4 c.first_kid_weights-weights.result (a.range.first + a.range.count) t.5 (λ j l. c.first_kid_weights-weights.ensures.weights a.rule t.0 t.1 t.2 t.3 j l) (a.range.first + a.range.count) (omega arith), own-under a.grammar.now c.requires.keyed a.rule t.0 t.1 t.2 t.4 a.range.first (a.range.first + a.range.count) (omega arith))

pub returns-clause-weight : goal.returns-clause-weight
returns-clause-weight g c = λ p x e k.
    let a = c.args in
    let t = c.requires.there in
    let w1 = weights-sum a.grammar.now c.requires.keyed a.rule t.0 t.1 t.2 t.4 c.first_kid_weights-weights.result (a.range.first + a.range.count) t.5 (λ j l. c.first_kid_weights-weights.ensures.weights a.rule t.0 t.1 t.2 t.3 j l) a.range.first (omega arith) in
    let w2 = weights-sum a.grammar.now c.requires.keyed a.rule t.0 t.1 t.2 t.4 c.first_kid_weights-weights.result (a.range.first + a.range.count) t.5 (λ j l. c.first_kid_weights-weights.ensures.weights a.rule t.0 t.1 t.2 t.3 j l) (a.range.first + a.range.count) (omega arith) in
    let none = no-spots a.grammar.now c.requires.keyed a.rule t.0 t.1 t.2 t.4 c.requires.closed in
    let found : RangeWeight = record { nodes = c.sum_of-nodes.result - c.sum_of-skipped.result; params = record { first = 0; count = 0 } } in
    same-node a.grammar.now c.requires.keyed a.key a.rule t.0 t.1 t.2 t.3 (λ (r p : ℕ) (x : Node). WeighsRange a.grammar.now.rules r p x a.range found)
    (weighs-range a.grammar.now c.requires.keyed a.rule t.0 t.1 t.2 t.4 a.range t.5 0 (sym (none-before a.grammar.now c.requires.keyed a.rule t.0 t.1 t.2 c.requires.closed)) found
    (omega (arith, c.sum_of-skipped.ensures, c.sum_of-nodes.ensures, w1, w2))
    (omega (arith, none a.range.first (omega (arith, t.5))))
    (omega (arith, none (a.range.first + a.range.count) t.5)))
    a.rule p x e k

pub returns-clause-steps : goal.returns-clause-steps
returns-clause-steps g c =
    let a = c.args in
    let t = c.requires.there in
    omega (arith, c.first_kid_weights-weights.ensures.steps a.rule t.0 (node-key (nodes_at a.grammar.now.rules a.rule) t.0 t.1 t.2 ∙ ap Some t.3))
