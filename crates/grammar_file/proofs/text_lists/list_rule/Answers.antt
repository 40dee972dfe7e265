use Rattle.std.proofs.Common.{◌∷◌, arith, refl, sym, subst}
use Rattle.rule_arena.specs.Terms.{Node}
use Rattle.slt_grammar.specs.Keyed.{rules_of}
use Rattle.slt_grammar.proofs.TourWalking.{node-here}
use Rattle.grammar_file.specs.TextLists.{AreSegments}
use Rattle.grammar_file.proofs.TextListing.{listed-start, calls-below, behind-here, listed-next, listed-end, if-ok}
use Rattle.grammar_file.proofs.text_lists.list_rule.Goals as goal

pub stops-init : goal.stops-init
stops-init g c =
    let a = c.args in
    let n = c.new-listing in
    listed-start a.names.now a.grammar.now c.requires.keyed a.rule c.requires.rule c.new-walk.result n.result.done.items n.result.begun.items a.steps.now c.new-walk.ensures.stands n.ensures.done n.ensures.begun

pub site-site-requires : goal.site-site-requires
site-site-requires g c =
    let i = c.stops.invariant in
    (c.args.rule, i.stands.place, node-here c.args.grammar.now.rules c.args.rule c.stops.walk (i.here ∷ i.left) i.stands)

pub stops-preserved : goal.stops-preserved
stops-preserved g c =
    let a = c.args in
    let i = c.stops.invariant in
    let s = c.stops.listing in
    let t = c.add.new.self in
    let x : Node = record { key = c.stops.walk.key; label = c.site-site.result.label; kids = c.site-site.result.arity } in
    let below = calls-below a.names.now a.grammar.now c.requires.keyed a.rule c.requires.rule c.stops.walk s.done.items s.begun.items a.steps.now c.stops.steps i x c.site-site.ensures.node in
    let part = c.part_at-part.ensures (rules_of a.grammar.now.rules) a.rule c.requires.lists below in
    let n = behind-here a.names.now a.grammar.now c.requires.keyed a.rule c.requires.rule c.stops.walk s.done.items s.begun.items a.steps.now c.stops.steps i x c.site-site.ensures.node s t c.part_at-part.result refl refl x.label refl c.in_ok-add.ensures part in
    listed-next a.names.now a.grammar.now c.requires.keyed a.rule c.requires.rule c.stops.walk s.done.items s.begun.items a.steps.now c.stops.steps i x c.site-site.ensures.node t.done.items t.begun.items n
    c.advance.new.self c.advance.new.steps (c.if-not-advance.ensures.next a.rule i.here i.left i.stands) (omega (arith, c.site-site.ensures.step, c.advance.ensures.step))

pub returns-then-not-advance : goal.returns-then-not-advance
returns-then-not-advance g c =
    let a = c.args in
    let i = c.stops.invariant in
    let s = c.stops.listing in
    let t = c.add.new.self in
    let x : Node = record { key = c.stops.walk.key; label = c.site-site.result.label; kids = c.site-site.result.arity } in
    let below = calls-below a.names.now a.grammar.now c.requires.keyed a.rule c.requires.rule c.stops.walk s.done.items s.begun.items a.steps.now c.stops.steps i x c.site-site.ensures.node in
    let part = c.part_at-part.ensures (rules_of a.grammar.now.rules) a.rule c.requires.lists below in
    let n = behind-here a.names.now a.grammar.now c.requires.keyed a.rule c.requires.rule c.stops.walk s.done.items s.begun.items a.steps.now c.stops.steps i x c.site-site.ensures.node s t c.part_at-part.result refl refl x.label refl c.in_ok-add.ensures part in
    let all = listed-end a.names.now a.grammar.now c.requires.keyed a.rule c.requires.rule c.stops.walk s.done.items s.begun.items a.steps.now c.stops.steps i x c.site-site.ensures.node t.done.items t.begun.items n
    (c.if-not-advance.ensures.next a.rule i.here i.left i.stands) t.begun refl in
    if-ok c.finish.result c.finish.ensures (λ segments e. subst (AreSegments a.names.now (rules_of a.grammar.now.rules) a.rule) (sym e) all)
