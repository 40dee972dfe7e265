use Rattle.std.proofs.Common.{arith, ◌+◌}
use Rattle.slt_grammar.specs.Keyed.{rules_of}
use Rattle.slt_grammar.proofs.KeyedLemmas.{key_at-within}
use Rattle.slt_grammar.proofs.TourLemmas.{length-node_tour}
use Rattle.preorder_address.specs.Descents.{levels_of}
use Rattle.preorder_address.specs.Weighing.{weight_of}
use Rattle.preorder_address.proofs.Sited.{siting-start, at-level, level-node, level-key, level-within, base-small, kids-small, sited-next, siting-next}
use Rattle.preorder_address.proofs.Weighers.{counts-of, total-small, zero-param}
use Rattle.preorder_address.proofs.site.site_of.Goals as goal

pub loop-level-init : goal.loop-level-init
loop-level-init g c =
    let a = c.args in
    let K = c.limit-limit.ensures.keyed in
    let w = weight_of a.weigher.now in
    siting-start a.grammar.now K w (zero-param a.weigher.now) a.number c.in_ok-descent.descent a.steps.now (c.in_ok-descent.ensures.leads a.grammar.now K (counts-of a.weigher.now (rules_of a.grammar.now.rules) a.counts.now c.requires.counts))

pub next-requires-clause-counts : goal.next-requires-clause-counts
next-requires-clause-counts g c =
    let a = c.args in
    counts-of a.weigher.now (rules_of a.grammar.now.rules) a.counts.now c.requires.counts

pub pass_to-passed-requires-clause-there : goal.pass_to-passed-requires-clause-there
pass_to-passed-requires-clause-there g c =
    let a = c.args in
    let K = c.limit-limit.ensures.keyed in
    let w = weight_of a.weigher.now in
    let l = c.in-Some.level in
    let s = at-level a.grammar.now K w (zero-param a.weigher.now) a.number c.loop-level.descent c.loop-level.before c.loop-level.kids a.steps.now c.loop-level.steps c.loop-level.invariant l c.next.new.self c.in-Some.ensures.levels in
    let ls = levels_of a.grammar.now.rules c.next.new.self in
    let i = level-node a.grammar.now K w (zero-param a.weigher.now) a.number l ls c.loop-level.before c.loop-level.kids s in
    (i.place, level-key a.grammar.now K w (zero-param a.weigher.now) a.number l ls c.loop-level.before c.loop-level.kids s)

pub pass_to-passed-requires-clause-small : goal.pass_to-passed-requires-clause-small
pass_to-passed-requires-clause-small g c =
    let a = c.args in
    let K = c.limit-limit.ensures.keyed in
    let w = weight_of a.weigher.now in
    let l = c.in-Some.level in
    let s = at-level a.grammar.now K w (zero-param a.weigher.now) a.number c.loop-level.descent c.loop-level.before c.loop-level.kids a.steps.now c.loop-level.steps c.loop-level.invariant l c.next.new.self c.in-Some.ensures.levels in
    let ls = levels_of a.grammar.now.rules c.next.new.self in
    let v = level-within a.grammar.now K w (zero-param a.weigher.now) a.number l ls c.loop-level.before c.loop-level.kids s in
    let t = total-small a.weigher.now a.grammar.now.rules a.counts.now c.requires.counts K.grammar in
    omega (arith, v, t)

pub overflow_add-before : goal.overflow_add-before
overflow_add-before g c =
    let a = c.args in
    let K = c.limit-limit.ensures.keyed in
    let w = weight_of a.weigher.now in
    let l = c.in-Some.level in
    let s = at-level a.grammar.now K w (zero-param a.weigher.now) a.number c.loop-level.descent c.loop-level.before c.loop-level.kids a.steps.now c.loop-level.steps c.loop-level.invariant l c.next.new.self c.in-Some.ensures.levels in
    let ls = levels_of a.grammar.now.rules c.next.new.self in
    let i = level-node a.grammar.now K w (zero-param a.weigher.now) a.number l ls c.loop-level.before c.loop-level.kids s in
    let k = level-key a.grammar.now K w (zero-param a.weigher.now) a.number l ls c.loop-level.before c.loop-level.kids s in
    let v = base-small a.grammar.now K w (zero-param a.weigher.now) a.number l ls c.loop-level.before c.loop-level.kids s c.pass_to-passed.result.weight (c.pass_to-passed.ensures.weight i.place k) in
    let t = total-small a.weigher.now a.grammar.now.rules a.counts.now c.requires.counts K.grammar in
    omega (arith, v, t)

pub kid_weights-kids-requires-clause-there : goal.kid_weights-kids-requires-clause-there
kid_weights-kids-requires-clause-there g c =
    let a = c.args in
    let K = c.limit-limit.ensures.keyed in
    let w = weight_of a.weigher.now in
    let l = c.in-Some.level in
    let s = at-level a.grammar.now K w (zero-param a.weigher.now) a.number c.loop-level.descent c.loop-level.before c.loop-level.kids a.steps.now c.loop-level.steps c.loop-level.invariant l c.next.new.self c.in-Some.ensures.levels in
    let ls = levels_of a.grammar.now.rules c.next.new.self in
    let i = level-node a.grammar.now K w (zero-param a.weigher.now) a.number l ls c.loop-level.before c.loop-level.kids s in
    (l.rule, i.place, level-key a.grammar.now K w (zero-param a.weigher.now) a.number l ls c.loop-level.before c.loop-level.kids s)

pub kid_weights-kids-requires-clause-small : goal.kid_weights-kids-requires-clause-small
kid_weights-kids-requires-clause-small g c = λ r p x e f.
    let a = c.args in
    let K = c.limit-limit.ensures.keyed in
    let w = weight_of a.weigher.now in
    let l = c.in-Some.level in
    let s = at-level a.grammar.now K w (zero-param a.weigher.now) a.number c.loop-level.descent c.loop-level.before c.loop-level.kids a.steps.now c.loop-level.steps c.loop-level.invariant l c.next.new.self c.in-Some.ensures.levels in
    let ls = levels_of a.grammar.now.rules c.next.new.self in
    let i = level-node a.grammar.now K w (zero-param a.weigher.now) a.number l ls c.loop-level.before c.loop-level.kids s in
    let k = level-key a.grammar.now K w (zero-param a.weigher.now) a.number l ls c.loop-level.before c.loop-level.kids s in
    let v = kids-small a.grammar.now K w (zero-param a.weigher.now) a.number l ls c.loop-level.before c.loop-level.kids s c.pass_to-passed.result.params (c.pass_to-passed.ensures.params i.place k) r p x e f in
    let t = total-small a.weigher.now a.grammar.now.rules a.counts.now c.requires.counts K.grammar in
    omega (arith, v, t)

pub loop-level-preserved : goal.loop-level-preserved
loop-level-preserved g c =
    let a = c.args in
    let K = c.limit-limit.ensures.keyed in
    let w = weight_of a.weigher.now in
    let l = c.in-Some.level in
    let s = at-level a.grammar.now K w (zero-param a.weigher.now) a.number c.loop-level.descent c.loop-level.before c.loop-level.kids a.steps.now c.loop-level.steps c.loop-level.invariant l c.next.new.self c.in-Some.ensures.levels in
    let ls = levels_of a.grammar.now.rules c.next.new.self in
    let i = level-node a.grammar.now K w (zero-param a.weigher.now) a.number l ls c.loop-level.before c.loop-level.kids s in
    let k = level-key a.grammar.now K w (zero-param a.weigher.now) a.number l ls c.loop-level.before c.loop-level.kids s in
    let p = c.pass_to-passed.result in
    let t = sited-next a.grammar.now K w (zero-param a.weigher.now) a.number l ls c.loop-level.before c.loop-level.kids s p.weight p.params c.kid_weights-kids.result (c.pass_to-passed.ensures.weight i.place k) (c.pass_to-passed.ensures.params i.place k)
    (c.kid_weights-kids.ensures.weights l.rule i.place i.node i.there i.key) in
    let h = (key_at-within a.grammar.now.rules l.rule i.place l.key k).0 in
    let n = length-node_tour a.grammar.now K l.rule h in
    let q = c.kid_weights-kids.ensures.steps l.rule i.place k in
    siting-next a.grammar.now K w (zero-param a.weigher.now) a.number c.loop-level.descent c.loop-level.before c.loop-level.kids a.steps.now c.loop-level.steps c.loop-level.invariant l c.next.new.self c.in-Some.ensures.levels c.in-Some.ensures.inside (c.loop-level.before + p.weight) c.kid_weights-kids.result t
    c.kid_weights-kids.new.steps (omega (arith, n, q, c.pass_to-passed.ensures.steps, c.in-Some.ensures.steps))
