use Rattle.std.proofs.Common.{ℕ, ◌+◌, ◌-◌, ◌∙◌, ◌<◌, ◌^◌, Some, arith, ap, drop, take}
use Rattle.std.specs.Prelude.{sum}
use Rattle.rule_arena.specs.Terms.{Node}
use Rattle.slt_grammar.specs.Keyed.{nodes_at, rules_of}
use Rattle.slt_grammar.proofs.KeyedLemmas.{key_at-within, length-rules_of}
use Rattle.slt_grammar.proofs.TourLemmas.{length-node_tour, params-preorder}
use Rattle.slt_grammar.proofs.TourWalking.{node-key}
use Rattle.segment_counts.specs.Weights.{node_weight}
use Rattle.preorder_address.specs.Ranges.{WeighsRange}
use Rattle.preorder_address.specs.Sites.{term_weights}
use Rattle.preorder_address.specs.declared.spot_extent.RangeWeight.{RangeWeight}
use Rattle.preorder_address.proofs.KidWalking.{is-node}
use Rattle.preorder_address.proofs.KidWeighing.{no_weights}
use Rattle.preorder_address.proofs.RangeSums.{alone, counted, counted-sum, one_weights, own-small, own-under, same-node, spots-small, spots-under, weighs-range, weights-sum}
use Rattle.preorder_address.proofs.spot_extent.range_weight.Goals as goal

pub overflow_add-end : goal.overflow_add-end
overflow_add-end g c =
    let a = c.args in
    let t = c.requires.there in
    omega (arith, t.5, (is-node a.grammar.now c.requires.keyed a.rule t.0 t.1 t.2).few)

pub first_kid_weights-weights-requires-clause-there : goal.first_kid_weights-weights-requires-clause-there
first_kid_weights-weights-requires-clause-there g c =
    let a = c.args in
    let t = c.requires.there in
    (a.rule, t.0, node-key (nodes_at a.grammar.now.rules a.rule) t.0 t.1 t.2 ∙ ap Some t.3)

pub first_kid_weights-weights-requires-clause-small : goal.first_kid_weights-weights-requires-clause-small
first_kid_weights-weights-requires-clause-small g c =
    let a = c.args in
    let t = c.requires.there in
    same-node a.grammar.now c.requires.keyed a.key a.rule t.0 t.1 t.2 t.3 (λ (r p : ℕ) (x : Node). sum (take x.kids (term_weights node_weight (rules_of a.grammar.now.rules) no_weights (drop (p + 1) (nodes_at a.grammar.now.rules r)))) < 2 ^ 64)
    (omega (arith, alone a.grammar.now c.requires.keyed a.rule t.0 t.1 t.2 t.4 t.1.kids (omega arith), own-small a.grammar.now c.requires.keyed a.rule t.0 t.1 t.2 t.4 a.counts.now c.requires.counts t.1.kids (omega arith)))

pub first_kid_weights-counted-requires-clause-there : goal.first_kid_weights-counted-requires-clause-there
first_kid_weights-counted-requires-clause-there g c =
    let a = c.args in
    let t = c.requires.there in
    (a.rule, t.0, node-key (nodes_at a.grammar.now.rules a.rule) t.0 t.1 t.2 ∙ ap Some t.3)

pub first_kid_weights-counted-requires-clause-small : goal.first_kid_weights-counted-requires-clause-small
first_kid_weights-counted-requires-clause-small g c =
    let a = c.args in
    let t = c.requires.there in
    same-node a.grammar.now c.requires.keyed a.key a.rule t.0 t.1 t.2 t.3 (λ (r p : ℕ) (x : Node). sum (take x.kids (term_weights node_weight (rules_of a.grammar.now.rules) one_weights (drop (p + 1) (nodes_at a.grammar.now.rules r)))) < 2 ^ 64)
    (omega (arith, counted a.grammar.now c.requires.keyed a.rule t.0 t.1 t.2 t.4 t.1.kids (omega arith), own-small a.grammar.now c.requires.keyed a.rule t.0 t.1 t.2 t.4 a.counts.now c.requires.counts t.1.kids (omega arith)))

pub sum_of-skipped-requires-clause-few : goal.sum_of-skipped-requires-clause-few
sum_of-skipped-requires-clause-few g c =
    let a = c.args in
    let t = c.requires.there in
    omega (arith, t.5, (is-node a.grammar.now c.requires.keyed a.rule t.0 t.1 t.2).few)

pub sum_of-skipped-requires-clause-small : goal.sum_of-skipped-requires-clause-small
sum_of-skipped-requires-clause-small g c =
    let a = c.args in
    let t = c.requires.there in
    omega (arith, weights-sum a.grammar.now c.requires.keyed a.rule t.0 t.1 t.2 t.4 c.first_kid_weights-weights.result (a.range.first + a.range.count) t.5 (λ j l. c.first_kid_weights-weights.ensures.weights a.rule t.0 t.1 t.2 t.3 j l) a.range.first (omega arith), own-small a.grammar.now c.requires.keyed a.rule t.0 t.1 t.2 t.4 a.counts.now c.requires.counts a.range.first (omega (arith, t.5)))

pub sum_of-nodes-requires-clause-few : goal.sum_of-nodes-requires-clause-few
sum_of-nodes-requires-clause-few g c =
    let a = c.args in
    let t = c.requires.there in
    omega (arith, t.5, (is-node a.grammar.now c.requires.keyed a.rule t.0 t.1 t.2).few)

pub sum_of-nodes-requires-clause-small : goal.sum_of-nodes-requires-clause-small
sum_of-nodes-requires-clause-small g c =
    let a = c.args in
    let t = c.requires.there in
    omega (arith, weights-sum a.grammar.now c.requires.keyed a.rule t.0 t.1 t.2 t.4 c.first_kid_weights-weights.result (a.range.first + a.range.count) t.5 (λ j l. c.first_kid_weights-weights.ensures.weights a.rule t.0 t.1 t.2 t.3 j l) (a.range.first + a.range.count) (omega arith), own-small a.grammar.now c.requires.keyed a.rule t.0 t.1 t.2 t.4 a.counts.now c.requires.counts (a.range.first + a.range.count) (omega (arith, t.5)))

pub sum_of-requires-clause-few : goal.sum_of-requires-clause-few
sum_of-requires-clause-few g c =
    let a = c.args in
    let t = c.requires.there in
    omega (arith, t.5, (is-node a.grammar.now c.requires.keyed a.rule t.0 t.1 t.2).few)

pub sum_of-requires-clause-small : goal.sum_of-requires-clause-small
sum_of-requires-clause-small g c =
    let a = c.args in
    let t = c.requires.there in
    omega (arith, counted-sum a.grammar.now c.requires.keyed a.rule t.0 t.1 t.2 t.4 c.first_kid_weights-counted.result (a.range.first + a.range.count) t.5 (λ j l. c.first_kid_weights-counted.ensures.weights a.rule t.0 t.1 t.2 t.3 j l) a.range.first (omega arith), own-small a.grammar.now c.requires.keyed a.rule t.0 t.1 t.2 t.4 a.counts.now c.requires.counts a.range.first (omega (arith, t.5)))

pub sum_of-requires-2-clause-few : goal.sum_of-requires-2-clause-few
sum_of-requires-2-clause-few g c =
    let a = c.args in
    let t = c.requires.there in
    omega (arith, t.5, (is-node a.grammar.now c.requires.keyed a.rule t.0 t.1 t.2).few)

pub sum_of-requires-2-clause-small : goal.sum_of-requires-2-clause-small
sum_of-requires-2-clause-small g c =
    let a = c.args in
    let t = c.requires.there in
    omega (arith, counted-sum a.grammar.now c.requires.keyed a.rule t.0 t.1 t.2 t.4 c.first_kid_weights-counted.result (a.range.first + a.range.count) t.5 (λ j l. c.first_kid_weights-counted.ensures.weights a.rule t.0 t.1 t.2 t.3 j l) (a.range.first + a.range.count) (omega arith), own-small a.grammar.now c.requires.keyed a.rule t.0 t.1 t.2 t.4 a.counts.now c.requires.counts (a.range.first + a.range.count) (omega (arith, t.5)))

pub overflow_sub-params_skipped : goal.overflow_sub-params_skipped
overflow_sub-params_skipped g c =
    let a = c.args in
    let t = c.requires.there in
    omega (arith, c.sum_of.ensures, c.sum_of-skipped.ensures, weights-sum a.grammar.now c.requires.keyed a.rule t.0 t.1 t.2 t.4 c.first_kid_weights-weights.result (a.range.first + a.range.count) t.5 (λ j l. c.first_kid_weights-weights.ensures.weights a.rule t.0 t.1 t.2 t.3 j l) a.range.first (omega arith), counted-sum a.grammar.now c.requires.keyed a.rule t.0 t.1 t.2 t.4 c.first_kid_weights-counted.result (a.range.first + a.range.count) t.5 (λ j l. c.first_kid_weights-counted.ensures.weights a.rule t.0 t.1 t.2 t.3 j l) a.range.first (omega arith))

pub overflow_sub-params_passed : goal.overflow_sub-params_passed
overflow_sub-params_passed g c =
    let a = c.args in
    let t = c.requires.there in
    omega (arith, c.sum_of-2.ensures, c.sum_of-nodes.ensures, weights-sum a.grammar.now c.requires.keyed a.rule t.0 t.1 t.2 t.4 c.first_kid_weights-weights.result (a.range.first + a.range.count) t.5 (λ j l. c.first_kid_weights-weights.ensures.weights a.rule t.0 t.1 t.2 t.3 j l) (a.range.first + a.range.count) (omega arith), counted-sum a.grammar.now c.requires.keyed a.rule t.0 t.1 t.2 t.4 c.first_kid_weights-counted.result (a.range.first + a.range.count) t.5 (λ j l. c.first_kid_weights-counted.ensures.weights a.rule t.0 t.1 t.2 t.3 j l) (a.range.first + a.range.count) (omega arith))

pub params_before-before-requires-clause-there : goal.params_before-before-requires-clause-there
params_before-before-requires-clause-there g c =
    let a = c.args in
    let t = c.requires.there in
    (t.0, node-key (nodes_at a.grammar.now.rules a.rule) t.0 t.1 t.2 ∙ ap Some t.3)

pub overflow_sub-result : goal.overflow_sub-result
overflow_sub-result g c =
    let a = c.args in
    let t = c.requires.there in
    omega (arith, c.sum_of-skipped.ensures, c.sum_of-nodes.ensures, weights-sum a.grammar.now c.requires.keyed a.rule t.0 t.1 t.2 t.4 c.first_kid_weights-weights.result (a.range.first + a.range.count) t.5 (λ j l. c.first_kid_weights-weights.ensures.weights a.rule t.0 t.1 t.2 t.3 j l) a.range.first (omega arith), weights-sum a.grammar.now c.requires.keyed a.rule t.0 t.1 t.2 t.4 c.first_kid_weights-weights.result (a.range.first + a.range.count) t.5 (λ j l. c.first_kid_weights-weights.ensures.weights a.rule t.0 t.1 t.2 t.3 j l) (a.range.first + a.range.count) (omega arith), own-under a.grammar.now c.requires.keyed a.rule t.0 t.1 t.2 t.4 a.range.first (a.range.first + a.range.count) (omega arith))

pub overflow_add-result : goal.overflow_add-result
overflow_add-result g c =
    let a = c.args in
    let t = c.requires.there in
    omega (arith, c.params_before-before.ensures.few, c.sum_of.ensures, c.sum_of-skipped.ensures, weights-sum a.grammar.now c.requires.keyed a.rule t.0 t.1 t.2 t.4 c.first_kid_weights-weights.result (a.range.first + a.range.count) t.5 (λ j l. c.first_kid_weights-weights.ensures.weights a.rule t.0 t.1 t.2 t.3 j l) a.range.first (omega arith), counted-sum a.grammar.now c.requires.keyed a.rule t.0 t.1 t.2 t.4 c.first_kid_weights-counted.result (a.range.first + a.range.count) t.5 (λ j l. c.first_kid_weights-counted.ensures.weights a.rule t.0 t.1 t.2 t.3 j l) a.range.first (omega arith), spots-small a.grammar.now c.requires.keyed a.rule t.0 t.1 t.2 t.4 a.range.first (omega (arith, t.5)))

pub overflow_sub-result-2 : goal.overflow_sub-result-2
overflow_sub-result-2 g c =
    let a = c.args in
    let t = c.requires.there in
    omega (arith, c.sum_of.ensures, c.sum_of-skipped.ensures, c.sum_of-2.ensures, c.sum_of-nodes.ensures, weights-sum a.grammar.now c.requires.keyed a.rule t.0 t.1 t.2 t.4 c.first_kid_weights-weights.result (a.range.first + a.range.count) t.5 (λ j l. c.first_kid_weights-weights.ensures.weights a.rule t.0 t.1 t.2 t.3 j l) a.range.first (omega arith), counted-sum a.grammar.now c.requires.keyed a.rule t.0 t.1 t.2 t.4 c.first_kid_weights-counted.result (a.range.first + a.range.count) t.5 (λ j l. c.first_kid_weights-counted.ensures.weights a.rule t.0 t.1 t.2 t.3 j l) a.range.first (omega arith), weights-sum a.grammar.now c.requires.keyed a.rule t.0 t.1 t.2 t.4 c.first_kid_weights-weights.result (a.range.first + a.range.count) t.5 (λ j l. c.first_kid_weights-weights.ensures.weights a.rule t.0 t.1 t.2 t.3 j l) (a.range.first + a.range.count) (omega arith), counted-sum a.grammar.now c.requires.keyed a.rule t.0 t.1 t.2 t.4 c.first_kid_weights-counted.result (a.range.first + a.range.count) t.5 (λ j l. c.first_kid_weights-counted.ensures.weights a.rule t.0 t.1 t.2 t.3 j l) (a.range.first + a.range.count) (omega arith), spots-under a.grammar.now c.requires.keyed a.rule t.0 t.1 t.2 t.4 a.range.first (a.range.first + a.range.count) (omega arith))

pub returns-clause-weight : goal.returns-clause-weight
returns-clause-weight g c = λ p x e k.
    let a = c.args in
    let t = c.requires.there in
    let w1 = weights-sum a.grammar.now c.requires.keyed a.rule t.0 t.1 t.2 t.4 c.first_kid_weights-weights.result (a.range.first + a.range.count) t.5 (λ j l. c.first_kid_weights-weights.ensures.weights a.rule t.0 t.1 t.2 t.3 j l) a.range.first (omega arith) in
    let w2 = weights-sum a.grammar.now c.requires.keyed a.rule t.0 t.1 t.2 t.4 c.first_kid_weights-weights.result (a.range.first + a.range.count) t.5 (λ j l. c.first_kid_weights-weights.ensures.weights a.rule t.0 t.1 t.2 t.3 j l) (a.range.first + a.range.count) (omega arith) in
    let c1 = counted-sum a.grammar.now c.requires.keyed a.rule t.0 t.1 t.2 t.4 c.first_kid_weights-counted.result (a.range.first + a.range.count) t.5 (λ j l. c.first_kid_weights-counted.ensures.weights a.rule t.0 t.1 t.2 t.3 j l) a.range.first (omega arith) in
    let c2 = counted-sum a.grammar.now c.requires.keyed a.rule t.0 t.1 t.2 t.4 c.first_kid_weights-counted.result (a.range.first + a.range.count) t.5 (λ j l. c.first_kid_weights-counted.ensures.weights a.rule t.0 t.1 t.2 t.3 j l) (a.range.first + a.range.count) (omega arith) in
    let found : RangeWeight = record {
      nodes = c.sum_of-nodes.result - c.sum_of-skipped.result;
      params = record { first = c.params_before-before.result + (c.sum_of.result - c.sum_of-skipped.result); count = (c.sum_of-2.result - c.sum_of-nodes.result) - (c.sum_of.result - c.sum_of-skipped.result) };
    } in
    same-node a.grammar.now c.requires.keyed a.key a.rule t.0 t.1 t.2 t.3 (λ (r p : ℕ) (x : Node). WeighsRange a.grammar.now.rules r p x a.range found)
    (weighs-range a.grammar.now c.requires.keyed a.rule t.0 t.1 t.2 t.4 a.range t.5 c.params_before-before.result (c.params_before-before.ensures.params t.0 (node-key (nodes_at a.grammar.now.rules a.rule) t.0 t.1 t.2 ∙ ap Some t.3)) found
    (omega (arith, c.sum_of-skipped.ensures, c.sum_of-nodes.ensures, w1, w2))
    (omega (arith, c.sum_of.ensures, c.sum_of-skipped.ensures, w1, c1))
    (omega (arith, c.sum_of.ensures, c.sum_of-skipped.ensures, c.sum_of-2.ensures, c.sum_of-nodes.ensures, w1, c1, w2, c2)))
    a.rule p x e k

pub returns-clause-steps : goal.returns-clause-steps
returns-clause-steps g c =
    let a = c.args in
    let t = c.requires.there in
    let k = (node-key (nodes_at a.grammar.now.rules a.rule) t.0 t.1 t.2 ∙ ap Some t.3) in
    let h = key_at-within a.grammar.now.rules a.rule t.0 a.key k in
    omega (arith, c.first_kid_weights-weights.ensures.steps a.rule t.0 k, c.first_kid_weights-counted.ensures.steps a.rule t.0 k, c.params_before-before.ensures.steps, length-node_tour a.grammar.now c.requires.keyed a.rule h.0)

pub closed_range_weight-requires-clause-closed : goal.closed_range_weight-requires-clause-closed
closed_range_weight-requires-clause-closed g c =
    let a = c.args in
    let t = c.requires.there in
    let h = key_at-within a.grammar.now.rules a.rule t.0 a.key (node-key (nodes_at a.grammar.now.rules a.rule) t.0 t.1 t.2 ∙ ap Some t.3) in
    omega (arith, params-preorder (rules_of a.grammar.now.rules) a.rule c.requires.keyed.grammar (omega (arith, h.0, length-rules_of a.grammar.now.rules)), c.rank.ensures, c.if-rank-eq0.true)
