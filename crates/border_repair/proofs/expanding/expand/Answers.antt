use Rattle.std.proofs.Common.{◌∷◌, arith}
use Rattle.rule_arena.specs.Terms.{Node}
use Rattle.slt_grammar.proofs.TourWalking.{node-here}
use Rattle.border_repair.specs.Expanding.{outside_at}
use Rattle.border_repair.proofs.ExpandSteps.{expanding-start, expanding-next, expanding-end}
use Rattle.border_repair.proofs.expanding.expand.Goals as goal

pub stops-init : goal.stops-init
stops-init g c =
    let a = c.args in
    expanding-start a.grammar.now c.limit-limit.ensures.keyed (outside_at a.outsides.now) a.rule c.requires.there c.new-walk.result c.clear.new.self.items a.steps.now c.new-walk.ensures.stands c.clear.ensures.items

pub site-site-requires : goal.site-site-requires
site-site-requires g c =
    let i = c.stops.invariant in
    (c.args.rule, i.stands.place, node-here c.args.grammar.now.rules c.args.rule c.stops.walk (i.here ∷ i.left) i.stands)

pub stops-preserved : goal.stops-preserved
stops-preserved g c =
    let a = c.args in
    let i = c.stops.invariant in
    let x : Node = record { key = c.stops.walk.key; label = c.site-site.result.label; kids = c.site-site.result.arity } in
    expanding-next a.grammar.now c.limit-limit.ensures.keyed (outside_at a.outsides.now) a.rule c.requires.there c.stops.walk c.stops.labels.items c.add_part.new.labels.items a.steps.now c.stops.steps i x c.site-site.ensures.node c.in_ok-add_part.ensures
    c.advance.new.self c.advance.new.steps (c.if-not-advance.ensures.next a.rule i.here i.left i.stands) (omega (arith, c.site-site.ensures.step, c.advance.ensures.step))

pub returns-then-not-advance : goal.returns-then-not-advance
returns-then-not-advance g c =
    let a = c.args in
    let i = c.stops.invariant in
    let x : Node = record { key = c.stops.walk.key; label = c.site-site.result.label; kids = c.site-site.result.arity } in
    expanding-end a.grammar.now c.limit-limit.ensures.keyed (outside_at a.outsides.now) a.rule c.requires.there c.stops.walk c.stops.labels.items c.add_part.new.labels.items a.steps.now c.stops.steps i x c.site-site.ensures.node c.in_ok-add_part.ensures
    (c.if-not-advance.ensures.next a.rule i.here i.left i.stands) c.requires.ranks
