use Rattle.std.proofs.Common.{◌∷◌, arith}
use Rattle.rule_arena.specs.Terms.{Node}
use Rattle.slt_grammar.proofs.TourWalking.{node-here}
use Rattle.value_cursor.proofs.RuleRises.{along-next, along-start, closed-here, opened-here, place-here, rise-here, rises-are}
use Rattle.value_cursor.proofs.rises.rises_of.Goals as goal

pub stops-init : goal.stops-init
stops-init g c =
    let a = c.args in
    let e = c.new-rising.ensures in
    along-start a.grammar.now c.requires.keyed a.rule c.requires.rule c.new-walk.result c.new-rising.result a.steps.now c.new-walk.ensures.stands e.most e.width e.at e.opened e.closed

pub site-site-requires : goal.site-site-requires
site-site-requires g c =
    let i = c.stops.invariant in
    (c.args.rule, i.stands.place, node-here c.args.grammar.now.rules c.args.rule c.stops.walk (i.here ∷ i.left) i.stands)

pub pass-requires-clause-at : goal.pass-requires-clause-at
pass-requires-clause-at g c =
    let a = c.args in
    let x : Node = record { key = c.stops.walk.key; label = c.site-site.result.label; kids = c.site-site.result.arity } in
    place-here a.grammar.now c.requires.keyed a.rule c.requires.rule a.counts.now c.requires.counts a.rows.now c.requires.rows c.stops.walk c.stops.rising a.steps.now c.stops.steps c.stops.invariant x c.site-site.ensures.node c.passed_at-passed.result c.passed_at-passed.ensures

pub pass-requires-clause-rise : goal.pass-requires-clause-rise
pass-requires-clause-rise g c =
    let a = c.args in
    let x : Node = record { key = c.stops.walk.key; label = c.site-site.result.label; kids = c.site-site.result.arity } in
    rise-here a.grammar.now c.requires.keyed a.rule c.requires.rule a.counts.now c.requires.counts a.rows.now c.requires.rows c.stops.walk c.stops.rising a.steps.now c.stops.steps c.stops.invariant x c.site-site.ensures.node c.passed_at-passed.result c.passed_at-passed.ensures

pub pass-requires-clause-opened : goal.pass-requires-clause-opened
pass-requires-clause-opened g c =
    let a = c.args in
    let x : Node = record { key = c.stops.walk.key; label = c.site-site.result.label; kids = c.site-site.result.arity } in
    opened-here a.grammar.now c.requires.keyed a.rule c.requires.rule a.counts.now c.requires.counts a.rows.now c.requires.rows c.stops.walk c.stops.rising a.steps.now c.stops.steps c.stops.invariant x c.site-site.ensures.node c.passed_at-passed.result c.passed_at-passed.ensures

pub pass-requires-clause-closed : goal.pass-requires-clause-closed
pass-requires-clause-closed g c =
    let a = c.args in
    let x : Node = record { key = c.stops.walk.key; label = c.site-site.result.label; kids = c.site-site.result.arity } in
    closed-here a.grammar.now c.requires.keyed a.rule c.requires.rule a.counts.now c.requires.counts a.rows.now c.requires.rows c.stops.walk c.stops.rising a.steps.now c.stops.steps c.stops.invariant x c.site-site.ensures.node c.passed_at-passed.result c.passed_at-passed.ensures

pub returns-then-not-advance : goal.returns-then-not-advance
returns-then-not-advance g c =
    let a = c.args in
    let i = c.stops.invariant in
    let x : Node = record { key = c.stops.walk.key; label = c.site-site.result.label; kids = c.site-site.result.arity } in
    rises-are a.grammar.now c.requires.keyed a.rule c.requires.rule a.counts.now c.requires.counts a.rows.now c.requires.rows c.stops.walk c.stops.rising a.steps.now c.stops.steps i x c.site-site.ensures.node c.passed_at-passed.result c.passed_at-passed.ensures c.pass.new.self c.pass.ensures (c.if-not-advance.ensures.next a.rule i.here i.left i.stands)

pub stops-preserved : goal.stops-preserved
stops-preserved g c =
    let a = c.args in
    let i = c.stops.invariant in
    let x : Node = record { key = c.stops.walk.key; label = c.site-site.result.label; kids = c.site-site.result.arity } in
    along-next a.grammar.now c.requires.keyed a.rule c.requires.rule a.counts.now c.requires.counts a.rows.now c.requires.rows c.stops.walk c.stops.rising a.steps.now c.stops.steps i x c.site-site.ensures.node c.passed_at-passed.result c.passed_at-passed.ensures c.pass.new.self c.pass.ensures c.advance.new.self c.advance.new.steps (c.if-not-advance.ensures.next a.rule i.here i.left i.stands)
    (omega (arith, c.site-site.ensures.step, c.advance.ensures.step))
