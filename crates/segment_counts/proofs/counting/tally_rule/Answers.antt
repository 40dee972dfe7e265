use Rattle.std.proofs.Common.{◌∷◌, arith, drop, refl}
use Rattle.rule_arena.specs.Terms.{Node}
use Rattle.slt_grammar.proofs.TourWalking.{node-here}
use Rattle.segment_counts.specs.declared.counts.Measure.TheVariants.{Nodes}
use Rattle.segment_counts.proofs.Tallying.{tallied-start, place-few, place-last, too-many, tallied-next, row-is, nodes-few}
use Rattle.segment_counts.proofs.counting.tally_rule.Goals as goal

pub stops-init : goal.stops-init
stops-init g c =
    let a = c.args in
    let e = c.new-tallies.ensures in
    tallied-start a.names.now a.grammar.now c.requires.keyed a.rule c.requires.rule c.new-walk.result c.new-tallies.result a.steps.now c.new-walk.ensures.stands e.sums e.width e.at e.total

pub site-site-requires : goal.site-site-requires
site-site-requires g c =
    let i = c.stops.invariant in
    (c.args.rule, i.stands.place, node-here c.args.grammar.now.rules c.args.rule c.stops.walk (i.here ∷ i.left) i.stands)

pub add-requires-clause-at : goal.add-requires-clause-at
add-requires-clause-at g c =
    let a = c.args in
    let i = c.stops.invariant in
    let x : Node = record { key = c.stops.walk.key; label = c.site-site.result.label; kids = c.site-site.result.arity } in
    place-few a.names.now a.grammar.now c.requires.keyed a.rule c.requires.rule (drop a.from a.counts.now.rows) c.requires.counts c.stops.walk c.stops.tallies a.steps.now c.stops.steps i x c.site-site.ensures.node c.weights_behind-weights.result c.weights_behind-weights.ensures Nodes

pub returns-then-not-add-clause-many : goal.returns-then-not-add-clause-many
returns-then-not-add-clause-many g c =
    let a = c.args in
    let i = c.stops.invariant in
    let x : Node = record { key = c.stops.walk.key; label = c.site-site.result.label; kids = c.site-site.result.arity } in
    too-many a.names.now a.grammar.now c.requires.keyed a.rule c.requires.rule (drop a.from a.counts.now.rows) c.requires.counts c.stops.walk c.stops.tallies a.steps.now c.stops.steps i x c.site-site.ensures.node c.weights_behind-weights.result c.weights_behind-weights.ensures (c.if-not-add.ensures.many refl)

pub returns-then-not-advance-clause-row : goal.returns-then-not-advance-clause-row
returns-then-not-advance-clause-row g c =
    let a = c.args in
    let i = c.stops.invariant in
    let x : Node = record { key = c.stops.walk.key; label = c.site-site.result.label; kids = c.site-site.result.arity } in
    row-is a.names.now a.grammar.now c.requires.keyed a.rule c.requires.rule (drop a.from a.counts.now.rows) c.requires.counts c.stops.walk c.stops.tallies a.steps.now c.stops.steps i x c.site-site.ensures.node c.weights_behind-weights.result c.weights_behind-weights.ensures c.add.new.self (c.if-not-add.ensures.adds refl) (c.if-not-advance.ensures.next a.rule i.here i.left i.stands)

pub returns-then-not-advance-clause-place : goal.returns-then-not-advance-clause-place
returns-then-not-advance-clause-place g c =
    let a = c.args in
    let i = c.stops.invariant in
    let x : Node = record { key = c.stops.walk.key; label = c.site-site.result.label; kids = c.site-site.result.arity } in
    place-last a.names.now a.grammar.now c.requires.keyed a.rule c.requires.rule (drop a.from a.counts.now.rows) c.requires.counts c.stops.walk c.stops.tallies a.steps.now c.stops.steps i x c.site-site.ensures.node c.weights_behind-weights.result c.weights_behind-weights.ensures c.add.new.self (c.if-not-add.ensures.adds refl) (c.if-not-advance.ensures.next a.rule i.here i.left i.stands)

pub returns-then-not-advance-clause-few : goal.returns-then-not-advance-clause-few
returns-then-not-advance-clause-few g c =
    let a = c.args in
    let i = c.stops.invariant in
    let x : Node = record { key = c.stops.walk.key; label = c.site-site.result.label; kids = c.site-site.result.arity } in
    nodes-few a.names.now a.grammar.now c.requires.keyed a.rule c.requires.rule (drop a.from a.counts.now.rows) c.requires.counts c.stops.walk c.stops.tallies a.steps.now c.stops.steps i x c.site-site.ensures.node c.weights_behind-weights.result c.weights_behind-weights.ensures c.add.new.self (c.if-not-add.ensures.adds refl) (c.if-not-advance.ensures.next a.rule i.here i.left i.stands) (c.if-not-add.ensures.small refl)

pub stops-preserved : goal.stops-preserved
stops-preserved g c =
    let a = c.args in
    let i = c.stops.invariant in
    let x : Node = record { key = c.stops.walk.key; label = c.site-site.result.label; kids = c.site-site.result.arity } in
    tallied-next a.names.now a.grammar.now c.requires.keyed a.rule c.requires.rule (drop a.from a.counts.now.rows) c.requires.counts c.stops.walk c.stops.tallies a.steps.now c.stops.steps i x c.site-site.ensures.node c.weights_behind-weights.result c.weights_behind-weights.ensures c.add.new.self (c.if-not-add.ensures.adds refl) c.advance.new.self c.advance.new.steps (c.if-not-advance.ensures.next a.rule i.here i.left i.stands) (c.if-not-add.ensures.small refl)
    (omega (arith, c.site-site.ensures.step, c.advance.ensures.step))
