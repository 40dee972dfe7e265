use Rattle.std.proofs.Common.{◌≡◌, arith, ap, sym, ◌∙◌}
use Rattle.slt_grammar.specs.Segments.{segment}
use Rattle.value_cursor.specs.Stops.{stops_of}
use Rattle.value_cursor.proofs.StopSteps.{labels_at}
use Rattle.value_cursor.proofs.SegmentStarts.{enters-fewer, enters-key, enters-more, enters-none, enters-stands, enters-start}
use Rattle.value_cursor.proofs.entering.segment_start.Goals as goal

pub loop-params-init : goal.loop-params-init
loop-params-init g c = enters-start c.args.grammar.now c.requires.keyed c.args.rule c.args.part c.requires.rule c.new-walk.result c.new-walk.ensures.stands

pub label-label-requires : goal.label-label-requires
label-label-requires g c = enters-key c.args.grammar.now c.requires.keyed c.args.rule c.args.part c.requires.rule c.loop-params.walk c.loop-params.params c.loop-params.invariant

pub advance_past-requires : goal.advance_past-requires
advance_past-requires g c =
    record { there = enters-stands c.args.grammar.now c.requires.keyed c.args.rule c.args.part c.requires.rule c.loop-params.walk c.loop-params.params c.loop-params.invariant }

pub returns-then-not-advance_past-clause-none : goal.returns-then-not-advance_past-clause-none
returns-then-not-advance_past-clause-none g c =
    enters-none c.args.grammar.now c.requires.keyed c.args.rule c.args.part c.requires.rule c.loop-params.walk c.loop-params.params c.loop-params.invariant c.label-label.result c.label-label.ensures.node c.loop-params-test.true c.params_behind-params.result c.params_behind-params.ensures c.advance_past.new.walk c.if-not-advance_past.ensures.next c.if-not-advance_past.ensures.past

pub loop-params-smaller : goal.loop-params-smaller
loop-params-smaller g c =
    enters-fewer c.args.grammar.now c.requires.keyed c.args.rule c.args.part c.requires.rule c.loop-params.walk c.loop-params.params c.loop-params.invariant c.label-label.result c.label-label.ensures.node c.loop-params-test.true c.params_behind-params.result c.params_behind-params.ensures c.advance_past.new.walk c.if-not-advance_past.ensures.next c.if-not-advance_past.ensures.past

pub loop-params-preserved : goal.loop-params-preserved
loop-params-preserved g c =
    enters-more c.args.grammar.now c.requires.keyed c.args.rule c.args.part c.requires.rule c.loop-params.walk c.loop-params.params c.loop-params.invariant c.label-label.result c.label-label.ensures.node c.loop-params-test.true c.params_behind-params.result c.params_behind-params.ensures c.advance_past.new.walk c.if-not-advance_past.ensures.next c.if-not-advance_past.ensures.past

pub returns-clause-at : goal.returns-clause-at
returns-clause-at g c = c.loop-params.invariant.stands

pub returns-clause-some : goal.returns-clause-some
returns-clause-some g c =
    let G = c.args.grammar.now.rules in
    let none : 0 ≡ c.loop-params.params = omega (arith, c.loop-params-test.false) in
    ap (λ n. segment n (labels_at G (stops_of G (record { rule = c.args.rule; walk = c.loop-params.walk })))) none ∙ sym c.loop-params.invariant.left
