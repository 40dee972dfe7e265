use Rattle.std.proofs.Common.{◌≡◌, ◌≤◌, ◌+◌, arith}
use Rattle.segment_counts.specs.Counting.{told_before}
use Rattle.segment_counts.specs.declared.counts.Measure.TheVariants.{Nodes, Texts, All}
use Rattle.preorder_address.proofs.SpotFinding.{weights-left}
use Rattle.preorder_address.proofs.spot.before_rule.Goals as goal

pub overflow_sub-result : goal.overflow_sub-result
overflow_sub-result c =
    let a = c.args in
    let s : told_before Nodes a.counts.now.rows a.rule a.part ≤ a.passed.nodes = c.requires.segments Nodes in
    let w : c.plus-weights.result.nodes ≡ a.before.nodes + a.passed.nodes = c.plus-weights.ensures Nodes in
    omega (arith, s, w, c.before-nodes.ensures)

pub overflow_sub-result-2 : goal.overflow_sub-result-2
overflow_sub-result-2 c =
    let a = c.args in
    let s : told_before Texts a.counts.now.rows a.rule a.part ≤ a.passed.texts = c.requires.segments Texts in
    let w : c.plus-weights.result.texts ≡ a.before.texts + a.passed.texts = c.plus-weights.ensures Texts in
    omega (arith, s, w, c.before-texts.ensures)

pub overflow_sub-result-3 : goal.overflow_sub-result-3
overflow_sub-result-3 c =
    let a = c.args in
    let s : told_before All a.counts.now.rows a.rule a.part ≤ a.passed.all = c.requires.segments All in
    let w : c.plus-weights.result.all ≡ a.before.all + a.passed.all = c.plus-weights.ensures All in
    omega (arith, s, w, c.before-all.ensures)

pub returns : goal.returns
returns c =
    let a = c.args in
    weights-left a.before a.passed c.plus-weights.result c.before-nodes.result c.before-texts.result c.before-all.result (λ m. told_before m a.counts.now.rows a.rule a.part) c.plus-weights.ensures c.requires.segments c.before-nodes.ensures c.before-texts.ensures c.before-all.ensures
