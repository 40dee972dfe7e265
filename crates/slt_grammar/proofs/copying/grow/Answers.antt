use Rattle.std.proofs.Common.{◌≡◌, ◌-◌, ◌<◌, ◌∙◌, ℕ, suc, length, drop, ap, sym, subst, refl, arith}
use Rattle.std.proofs.lemmas.Option.{slice_get_read}
use Rattle.rule_arena.specs.Terms.{Node}
use Rattle.rule_arena.specs.declared.label.Label.{Label}
use Rattle.rule_arena.specs.declared.label.Label.TheVariants.{Bottom, Symbol, Call, Param}
use Rattle.slt_grammar.specs.Copying.{hole}
use Rattle.slt_grammar.specs.Growing.{IsGrown}
use Rattle.slt_grammar.proofs.Copies.{grown-arg, step-node}
use Rattle.slt_grammar.proofs.copying.grow.Goals as goal

real : (l : Label) → (l ≡ Param → ⊥) → hole l ≡ 0
real Bottom h = refl
real (Symbol f) h = refl
real (Call q) h = refl
real Param h = absurd (h refl)

pub returns-in-Param-clause-grown : goal.returns-in-Param-clause-grown
returns-in-Param-clause-grown c = λ o ns ks G.
    let is : c.args.shape.label ≡ Param = sym (ap (λ (n : Node). n.label) c.shape.view_is) ∙ c.in-Param.is in
    let h : hole c.args.shape.label ≡ 1 = ap hole is in
    let e : c.args.left ≡ suc (c.args.left - 1) = omega (arith, h, c.requires.some) in
    let l : c.args.left - 1 < length c.args.args.now = omega (arith, e, G.used) in
    grown-arg o c.args.arena.now c.args.shape ns c.args.args.now (c.args.left - 1) (drop c.args.top c.args.stack.now) ks c.index-args-left.result c.limit-limit.ensures.sound
    (subst (λ (m : ℕ). IsGrown o c.args.arena.now ns c.args.args.now m (drop c.args.top c.args.stack.now) ks) e G) (c.requires.shape.leaf is) h
    (slice_get_read c.args.args.now (length c.args.args.now) (c.args.left - 1) c.index-args-left.result refl l c.index-args-left.is)

pub returns-in_default-clause-grown : goal.returns-in_default-clause-grown
returns-in_default-clause-grown c = λ o ns ks G.
    let k : c.args.shape.kids ≡ c.shape.inside.kids = sym (ap (λ (n : Node). n.kids) c.shape.view_is) in
    let l : c.args.shape.label ≡ c.shape.inside.label = sym (ap (λ (n : Node). n.label) c.shape.view_is) in
    step-node o c.args.arena.now c.add-root.new.self c.args.shape c.shape.inside.label ns c.args.args.now c.args.left c.args.stack.now c.args.top c.shape.inside.kids ks c.add-root.result G k l
    (omega (arith, k, c.requires.enough)) (real c.args.shape.label (λ e. c.in_default.not-Param (sym l ∙ e)))
    (record { vacant = c.add-root.ensures.vacant; term = c.add-root.ensures.term; others = c.add-root.ensures.others }) c.add-root.ensures.fresh
