use Rattle.std.proofs.Common.{arith, ◌+◌, ◌∷◌, refl, sym, subst, ℕ}
use Rattle.rule_arena.specs.Terms.{Node}
use Rattle.slt_grammar.proofs.TourWalking.{node-here}
use Rattle.preorder_address.proofs.ParamSeeking.{SeeksParam, param-found, params-left, seek-next, seeks-param}
use Rattle.preorder_address.proofs.parent.param_at.Goals as goal

pub loop-site-init : goal.loop-site-init
loop-site-init g c =
    let a = c.args in
    seeks-param a.grammar.now.rules a.rule a.number c.new-walk.result a.steps.now c.new-walk.ensures.stands

pub site-site-requires : goal.site-site-requires
site-site-requires g c =
    let a = c.args in
    let i = c.loop-site.invariant in
    (a.rule, i.stands.place, node-here a.grammar.now.rules a.rule c.loop-site.walk (i.here ∷ i.left) i.stands)

pub returns-then-is_param-clause-there : goal.returns-then-is_param-clause-there
returns-then-is_param-clause-there g c =
    let a = c.args in
    let y = c.if-is_param.ensures.yes refl in
    let x : Node = record { key = c.loop-site.walk.key; label = c.site-site.result.label; kids = c.site-site.result.arity } in
    param-found a.grammar.now c.requires.keyed a.rule a.number c.requires.rule c.requires.number c.loop-site.walk c.loop-site.passed a.steps.now c.loop-site.steps c.loop-site.invariant x c.site-site.ensures.node y.0 y.1

pub unreachable-requires : goal.unreachable-requires
unreachable-requires g c =
    let a = c.args in
    let i = c.loop-site.invariant in
    let x : Node = record { key = c.loop-site.walk.key; label = c.site-site.result.label; kids = c.site-site.result.arity } in
    params-left a.grammar.now c.requires.keyed a.rule a.number c.requires.rule c.requires.number c.loop-site.walk c.loop-site.passed a.steps.now c.loop-site.steps i x c.site-site.ensures.node (c.if-is_param.ensures.no refl)
    (c.if-not-advance.ensures.next a.rule i.here i.left i.stands)

pub loop-site-preserved : goal.loop-site-preserved
loop-site-preserved g c =
    let a = c.args in
    let i = c.loop-site.invariant in
    let x : Node = record { key = c.loop-site.walk.key; label = c.site-site.result.label; kids = c.site-site.result.arity } in
    let v = seek-next a.grammar.now c.requires.keyed a.rule a.number c.requires.rule c.requires.number c.loop-site.walk c.loop-site.passed a.steps.now c.loop-site.steps i x c.site-site.ensures.node (c.if-is_param.ensures.no refl)
    c.advance.new.self c.advance.new.steps (c.if-not-advance.ensures.next a.rule i.here i.left i.stands) (omega (arith, c.site-site.ensures.step, c.advance.ensures.step)) in
    subst (λ (n : ℕ). SeeksParam a.grammar.now.rules a.rule a.number c.advance.new.self (c.loop-site.passed + n) a.steps.now c.advance.new.steps) (sym c.params_of-passed.ensures) v
