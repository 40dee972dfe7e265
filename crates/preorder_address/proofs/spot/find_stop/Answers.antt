use Rattle.std.proofs.Common.{arith, refl, length, ◌∷◌, []}
use Rattle.rule_arena.specs.Terms.{Node}
use Rattle.slt_grammar.specs.Keyed.{rules_of}
use Rattle.slt_grammar.proofs.CallCounts.{below-more}
use Rattle.slt_grammar.proofs.KeyedLemmas.{length-rules_of}
use Rattle.slt_grammar.proofs.TourWalking.{node-here}
use Rattle.preorder_address.proofs.SpotFinding.{weighs-begin, weighs-passed, there, stop-calls, stop-within, falls-weighed, never-last, weighs-more}
use Rattle.preorder_address.proofs.spot.find_stop.Goals as goal

pub stops-init : goal.stops-init
stops-init g c =
    let a = c.args in
    record {
      weighs = weighs-begin a.names.now a.grammar.now a.by c.requires.keyed a.wanted.rule c.requires.rule a.wanted.number c.begin-begun.result.walk c.begin-begun.result.passed a.steps.now (c.begin-begun.ensures.passed a.names.now c.requires.marks) c.begin-begun.ensures.under c.requires.number;
      marks = c.requires.marks;
    }

pub site-site-requires : goal.site-site-requires
site-site-requires g c =
    let s = c.stops.invariant.weighs in
    (c.args.wanted.rule, s.stands.place, node-here c.args.grammar.now.rules c.args.wanted.rule c.stops.walk s.ms s.stands)

pub overflow_sub-left : goal.overflow_sub-left
overflow_sub-left g c = omega (arith, c.of-before.ensures, c.stops.invariant.weighs.under)

pub returns-then-left-here-clause-falls : goal.returns-then-left-here-clause-falls
returns-then-left-here-clause-falls g c =
    let a = c.args in
    let x : Node = record { key = c.stops.walk.key; label = c.site-site.result.label; kids = c.site-site.result.arity } in
    let b = stop-calls a.names.now a.grammar.now a.by c.requires.keyed a.wanted.rule c.requires.rule a.wanted.number c.stops.walk c.stops.passed a.steps.now c.stops.steps c.stops.invariant.weighs x c.site-site.ensures.node in
    let k = below-more a.wanted.rule (length (rules_of a.grammar.now.rules)) (x.label ∷ []) (omega (arith, c.requires.rule, length-rules_of a.grammar.now.rules)) b in
    falls-weighed a.names.now a.grammar.now a.by c.requires.keyed a.wanted.rule c.requires.rule a.wanted.number c.stops.walk c.stops.passed a.steps.now c.stops.steps c.stops.invariant.weighs x c.site-site.ensures.node c.weights-weights.result (λ m. c.weights-weights.ensures m _ (rules_of a.grammar.now.rules) c.requires.counts.numbers k) (omega (arith, c.if-left-here.true, c.of-before.ensures, c.of-here.ensures)) c.site-site.result.arity refl

pub returns-then-left-here-clause-calls : goal.returns-then-left-here-clause-calls
returns-then-left-here-clause-calls g c =
    let a = c.args in
    let x : Node = record { key = c.stops.walk.key; label = c.site-site.result.label; kids = c.site-site.result.arity } in
    stop-calls a.names.now a.grammar.now a.by c.requires.keyed a.wanted.rule c.requires.rule a.wanted.number c.stops.walk c.stops.passed a.steps.now c.stops.steps c.stops.invariant.weighs x c.site-site.ensures.node

pub plus-passed-requires : goal.plus-passed-requires
plus-passed-requires g c = λ m.
    let a = c.args in
    let x : Node = record { key = c.stops.walk.key; label = c.site-site.result.label; kids = c.site-site.result.arity } in
    let b = stop-calls a.names.now a.grammar.now a.by c.requires.keyed a.wanted.rule c.requires.rule a.wanted.number c.stops.walk c.stops.passed a.steps.now c.stops.steps c.stops.invariant.weighs x c.site-site.ensures.node in
    let k = below-more a.wanted.rule (length (rules_of a.grammar.now.rules)) (x.label ∷ []) (omega (arith, c.requires.rule, length-rules_of a.grammar.now.rules)) b in
    let s = stop-within a.names.now a.grammar.now a.by c.requires.keyed a.wanted.rule c.requires.rule a.wanted.number c.stops.walk c.stops.passed a.steps.now c.stops.steps c.stops.invariant.weighs x c.site-site.ensures.node c.weights-weights.result (λ m. c.weights-weights.ensures m _ (rules_of a.grammar.now.rules) c.requires.counts.numbers k) m in
    let l = c.requires.counts.numbers.small m a.wanted.rule (omega (arith, c.requires.rule, length-rules_of a.grammar.now.rules)) in
    omega (arith, s, l)

pub unreachable-requires : goal.unreachable-requires
unreachable-requires g c =
    let a = c.args in
    let x : Node = record { key = c.stops.walk.key; label = c.site-site.result.label; kids = c.site-site.result.arity } in
    let b = stop-calls a.names.now a.grammar.now a.by c.requires.keyed a.wanted.rule c.requires.rule a.wanted.number c.stops.walk c.stops.passed a.steps.now c.stops.steps c.stops.invariant.weighs x c.site-site.ensures.node in
    let k = below-more a.wanted.rule (length (rules_of a.grammar.now.rules)) (x.label ∷ []) (omega (arith, c.requires.rule, length-rules_of a.grammar.now.rules)) b in
    let t = there a.names.now a.grammar.now a.by c.requires.keyed a.wanted.rule c.requires.rule a.wanted.number c.stops.walk c.stops.passed a.steps.now c.stops.steps c.stops.invariant.weighs x c.site-site.ensures.node in
    never-last a.names.now a.grammar.now a.by c.requires.keyed a.wanted.rule c.requires.rule a.wanted.number c.stops.walk c.stops.passed a.steps.now c.stops.steps c.stops.invariant.weighs x c.site-site.ensures.node c.weights-weights.result (λ m. c.weights-weights.ensures m _ (rules_of a.grammar.now.rules) c.requires.counts.numbers k) (omega (arith, c.if-left-here.false, c.of-before.ensures, c.of-here.ensures)) (c.if-not-advance.ensures.next a.wanted.rule t.here t.others t.stands)

pub stops-preserved : goal.stops-preserved
stops-preserved g c =
    let a = c.args in
    let x : Node = record { key = c.stops.walk.key; label = c.site-site.result.label; kids = c.site-site.result.arity } in
    let b = stop-calls a.names.now a.grammar.now a.by c.requires.keyed a.wanted.rule c.requires.rule a.wanted.number c.stops.walk c.stops.passed a.steps.now c.stops.steps c.stops.invariant.weighs x c.site-site.ensures.node in
    let k = below-more a.wanted.rule (length (rules_of a.grammar.now.rules)) (x.label ∷ []) (omega (arith, c.requires.rule, length-rules_of a.grammar.now.rules)) b in
    let t = there a.names.now a.grammar.now a.by c.requires.keyed a.wanted.rule c.requires.rule a.wanted.number c.stops.walk c.stops.passed a.steps.now c.stops.steps c.stops.invariant.weighs x c.site-site.ensures.node in
    let w =
    weighs-more a.names.now a.grammar.now a.by c.requires.keyed a.wanted.rule c.requires.rule a.wanted.number c.stops.walk c.stops.passed a.steps.now c.stops.steps c.stops.invariant.weighs x c.site-site.ensures.node c.weights-weights.result (λ m. c.weights-weights.ensures m _ (rules_of a.grammar.now.rules) c.requires.counts.numbers k) (omega (arith, c.if-left-here.false, c.of-before.ensures, c.of-here.ensures)) c.plus-passed.result c.plus-passed.ensures
    c.advance.new.self c.advance.new.steps (c.if-not-advance.ensures.next a.wanted.rule t.here t.others t.stands) (omega (arith, c.site-site.ensures.step, c.advance.ensures.step)) in
    record { weighs = w; marks = c.note-since.ensures.marks a.names.now c.stops.invariant.marks (weighs-passed a.names.now a.grammar.now a.by a.wanted.rule a.wanted.number c.advance.new.self c.plus-passed.result a.steps.now c.advance.new.steps w) }
