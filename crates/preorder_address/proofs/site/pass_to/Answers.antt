use Rattle.std.proofs.Common.{ℕ, ◌+◌, ◌++◌, ◌∷◌, ◌∙◌, ap, sym, subst, refl, arith}
use Rattle.rule_arena.specs.Terms.{Node}
use Rattle.slt_grammar.specs.Bodies.{params}
use Rattle.slt_grammar.specs.Keyed.{rules_of}
use Rattle.slt_grammar.specs.Tours.{stop}
use Rattle.slt_grammar.proofs.TourWalking.{node-here}
use Rattle.preorder_address.specs.Sites.{laden}
use Rattle.preorder_address.specs.Weighing.{weight_of}
use Rattle.preorder_address.proofs.Passing.{Passing, params-small, passing-start, passing-by, passing-next, passing-steps, passed-to, count-few, by-calls, by-within, never-end}
use Rattle.preorder_address.proofs.site.pass_to.Goals as goal

pub stops-init : goal.stops-init
stops-init g c =
    let a = c.args in
    let h = c.requires.there in
    passing-start a.grammar.now c.requires.keyed (weight_of a.weigher.now) a.args.now a.rule a.key c.new-walk.result a.steps.now c.new-walk.ensures.stands h.0 h.1

pub returns-then-begins_at-clause-weight : goal.returns-then-begins_at-clause-weight
returns-then-begins_at-clause-weight g c = λ p e.
    let a = c.args in
    let b = c.if-begins_at.ensures.yes refl in
    let i = c.stops.invariant in
    i.weight_is ∙ ap (laden (weight_of a.weigher.now) a.args.now) (passed-to a.grammar.now c.requires.keyed (weight_of a.weigher.now) a.args.now a.rule a.key c.stops.walk c.stops.passed.weight c.stops.passed.params a.steps.now c.stops.steps i b.0 b.1 p e)

pub returns-then-begins_at-clause-params : goal.returns-then-begins_at-clause-params
returns-then-begins_at-clause-params g c = λ p e.
    let a = c.args in
    let b = c.if-begins_at.ensures.yes refl in
    let i = c.stops.invariant in
    i.count_is ∙ ap params (passed-to a.grammar.now c.requires.keyed (weight_of a.weigher.now) a.args.now a.rule a.key c.stops.walk c.stops.passed.weight c.stops.passed.params a.steps.now c.stops.steps i b.0 b.1 p e)

pub returns-then-begins_at-clause-few : goal.returns-then-begins_at-clause-few
returns-then-begins_at-clause-few g c =
    let a = c.args in
    count-few a.grammar.now c.requires.keyed (weight_of a.weigher.now) a.args.now a.rule a.key c.stops.walk c.stops.passed.weight c.stops.passed.params a.steps.now c.stops.steps c.stops.invariant

pub returns-then-begins_at-clause-steps : goal.returns-then-begins_at-clause-steps
returns-then-begins_at-clause-steps g c =
    let a = c.args in
    passing-steps a.grammar.now c.requires.keyed (weight_of a.weigher.now) a.args.now a.rule a.key c.stops.walk c.stops.passed.weight c.stops.passed.params a.steps.now c.stops.steps c.stops.invariant

pub site-site-requires : goal.site-site-requires
site-site-requires g c =
    let a = c.args in
    let by = passing-by a.grammar.now c.requires.keyed (weight_of a.weigher.now) a.args.now a.rule a.key c.stops.walk c.stops.passed.weight c.stops.passed.params a.steps.now c.stops.steps c.stops.invariant (c.if-begins_at.ensures.no refl) in
    (a.rule, by.stands.place, node-here a.grammar.now.rules a.rule c.stops.walk (by.here ∷ (by.ahead ++ stop by.node 0 ∷ by.behind)) by.stands)

pub overflow_add-passed : goal.overflow_add-passed
overflow_add-passed g c =
    let a = c.args in
    let by = passing-by a.grammar.now c.requires.keyed (weight_of a.weigher.now) a.args.now a.rule a.key c.stops.walk c.stops.passed.weight c.stops.passed.params a.steps.now c.stops.steps c.stops.invariant (c.if-begins_at.ensures.no refl) in
    let x : Node = record { key = c.stops.walk.key; label = c.site-site.result.label; kids = c.site-site.result.arity } in
    let b = by-calls a.grammar.now c.requires.keyed (weight_of a.weigher.now) a.args.now a.rule a.key c.stops.walk c.stops.passed.weight c.stops.passed.params a.steps.now c.stops.steps by x c.site-site.ensures.node in
    let n = c.part_weight.ensures (rules_of a.grammar.now.rules) c.requires.counts b in
    let w = by-within a.grammar.now c.requires.keyed (weight_of a.weigher.now) a.args.now a.rule a.key c.stops.walk c.stops.passed.weight c.stops.passed.params a.steps.now c.stops.steps by x c.site-site.ensures.node c.part_weight.result n in
    omega (arith, w, c.requires.small)

pub overflow_add-passed-in-stops : goal.overflow_add-passed-in-stops
overflow_add-passed-in-stops g c =
    let a = c.args in
    omega (arith, count-few a.grammar.now c.requires.keyed (weight_of a.weigher.now) a.args.now a.rule a.key c.stops.walk c.stops.passed.weight c.stops.passed.params a.steps.now c.stops.steps c.stops.invariant, c.params_of.ensures, params-small c.site-site.result.label)

pub unreachable-requires : goal.unreachable-requires
unreachable-requires g c =
    let a = c.args in
    let by = passing-by a.grammar.now c.requires.keyed (weight_of a.weigher.now) a.args.now a.rule a.key c.stops.walk c.stops.passed.weight c.stops.passed.params a.steps.now c.stops.steps c.stops.invariant (c.if-begins_at.ensures.no refl) in
    let x : Node = record { key = c.stops.walk.key; label = c.site-site.result.label; kids = c.site-site.result.arity } in
    never-end a.grammar.now c.requires.keyed (weight_of a.weigher.now) a.args.now a.rule a.key c.stops.walk c.stops.passed.weight c.stops.passed.params a.steps.now c.stops.steps by x c.site-site.ensures.node (c.if-not-advance.ensures.next a.rule by.here (by.ahead ++ stop by.node 0 ∷ by.behind) by.stands)

pub stops-preserved : goal.stops-preserved
stops-preserved g c =
    let a = c.args in
    let by = passing-by a.grammar.now c.requires.keyed (weight_of a.weigher.now) a.args.now a.rule a.key c.stops.walk c.stops.passed.weight c.stops.passed.params a.steps.now c.stops.steps c.stops.invariant (c.if-begins_at.ensures.no refl) in
    let x : Node = record { key = c.stops.walk.key; label = c.site-site.result.label; kids = c.site-site.result.arity } in
    let b = by-calls a.grammar.now c.requires.keyed (weight_of a.weigher.now) a.args.now a.rule a.key c.stops.walk c.stops.passed.weight c.stops.passed.params a.steps.now c.stops.steps by x c.site-site.ensures.node in
    let n = c.part_weight.ensures (rules_of a.grammar.now.rules) c.requires.counts b in
    let v = passing-next a.grammar.now c.requires.keyed (weight_of a.weigher.now) a.args.now a.rule a.key c.stops.walk c.stops.passed.weight c.stops.passed.params a.steps.now c.stops.steps by x c.site-site.ensures.node c.part_weight.result n c.advance.new.self c.advance.new.steps (c.if-not-advance.ensures.next a.rule by.here (by.ahead ++ stop by.node 0 ∷ by.behind) by.stands)
    (omega (arith, c.site-site.ensures.step, c.advance.ensures.step)) in
    subst (λ (n : ℕ). Passing a.grammar.now.rules (weight_of a.weigher.now) a.args.now a.rule a.key c.advance.new.self (c.stops.passed.weight + c.part_weight.result) (c.stops.passed.params + n) a.steps.now c.advance.new.steps) (sym c.params_of.ensures) v
