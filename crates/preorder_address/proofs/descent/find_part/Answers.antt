use Rattle.std.proofs.Common.{arith}
use Rattle.rule_arena.specs.Terms.{Node}
use Rattle.slt_grammar.proofs.TourWalking.{node-here}
use Rattle.preorder_address.specs.Told.{told_weight}
use Rattle.preorder_address.proofs.Seeking.{seeks-start}
use Rattle.preorder_address.proofs.Finding.{there, falls-here, found-calls, never-last, seeks-more}
use Rattle.preorder_address.proofs.descent.find_part.Goals as goal

pub loop-number-init : goal.loop-number-init
loop-number-init g c =
    let a = c.args in
    seeks-start a.grammar.now.rules (told_weight a.by a.counts.now) a.wanted.rule a.wanted.number c.new-walk.result a.steps.now c.new-walk.ensures.stands c.requires.number

pub site-site-requires : goal.site-site-requires
site-site-requires g c =
    let s = c.loop-number.invariant in
    (c.args.wanted.rule, s.stands.place, node-here c.args.grammar.now.rules c.args.wanted.rule c.loop-number.walk s.ms s.stands)

pub returns-then-number-weight-clause-falls : goal.returns-then-number-weight-clause-falls
returns-then-number-weight-clause-falls g c =
    let a = c.args in
    let x : Node = record { key = c.loop-number.walk.key; label = c.site-site.result.label; kids = c.site-site.result.arity } in
    (c.site-site.result.arity, falls-here a.grammar.now c.requires.keyed (told_weight a.by a.counts.now) a.wanted.rule c.requires.rule a.wanted.number c.loop-number.walk c.loop-number.number a.steps.now c.loop-number.steps c.loop-number.invariant x c.site-site.ensures.node c.weight-weight.result c.weight-weight.ensures c.if-number-weight.true)

pub returns-then-number-weight-clause-calls : goal.returns-then-number-weight-clause-calls
returns-then-number-weight-clause-calls g c =
    let a = c.args in
    let x : Node = record { key = c.loop-number.walk.key; label = c.site-site.result.label; kids = c.site-site.result.arity } in
    found-calls a.grammar.now c.requires.keyed (told_weight a.by a.counts.now) a.wanted.rule c.requires.rule a.wanted.number c.loop-number.walk c.loop-number.number a.steps.now c.loop-number.steps c.loop-number.invariant x c.site-site.ensures.node c.weight-weight.result c.weight-weight.ensures

pub unreachable-requires : goal.unreachable-requires
unreachable-requires g c =
    let a = c.args in
    let x : Node = record { key = c.loop-number.walk.key; label = c.site-site.result.label; kids = c.site-site.result.arity } in
    let t = there a.grammar.now c.requires.keyed (told_weight a.by a.counts.now) a.wanted.rule c.requires.rule a.wanted.number c.loop-number.walk c.loop-number.number a.steps.now c.loop-number.steps c.loop-number.invariant x c.site-site.ensures.node c.weight-weight.result c.weight-weight.ensures in
    never-last a.grammar.now c.requires.keyed (told_weight a.by a.counts.now) a.wanted.rule c.requires.rule a.wanted.number c.loop-number.walk c.loop-number.number a.steps.now c.loop-number.steps c.loop-number.invariant x c.site-site.ensures.node c.weight-weight.result c.weight-weight.ensures (omega (arith, c.if-number-weight.false)) (c.if-not-advance.ensures.next a.wanted.rule t.here t.others t.stands)

pub loop-number-preserved : goal.loop-number-preserved
loop-number-preserved g c =
    let a = c.args in
    let x : Node = record { key = c.loop-number.walk.key; label = c.site-site.result.label; kids = c.site-site.result.arity } in
    let t = there a.grammar.now c.requires.keyed (told_weight a.by a.counts.now) a.wanted.rule c.requires.rule a.wanted.number c.loop-number.walk c.loop-number.number a.steps.now c.loop-number.steps c.loop-number.invariant x c.site-site.ensures.node c.weight-weight.result c.weight-weight.ensures in
    seeks-more a.grammar.now c.requires.keyed (told_weight a.by a.counts.now) a.wanted.rule c.requires.rule a.wanted.number c.loop-number.walk c.loop-number.number a.steps.now c.loop-number.steps c.loop-number.invariant x c.site-site.ensures.node c.weight-weight.result c.weight-weight.ensures (omega (arith, c.if-number-weight.false)) c.advance.new.self c.advance.new.steps (c.if-not-advance.ensures.next a.wanted.rule t.here t.others t.stands) (omega (arith, c.site-site.ensures.step, c.advance.ensures.step))
