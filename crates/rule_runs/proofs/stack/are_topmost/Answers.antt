use Rattle.std.proofs.Common.{◌≡◌, ◌<◌, ◌-◌, ◌∙◌, Bool, not, refl, sym, ap, arith, true, false, length, get_or, reverse}
use Rattle.std.proofs.lemmas.List.{get_or-reverse, length-reverse}
use Rattle.rule_runs.proofs.Lists.{take-alike}
use Rattle.rule_runs.proofs.stack.are_topmost.Goals as goal

is-true : (b : Bool) → false ≡ not b → b ≡ true
is-true true e = refl
is-true false e = absurd (cc)

pub states-preserved : goal.states-preserved
states-preserved g c =
    let xs = c.args.states.now in
    let ys = c.args.stack.now.items in
    let x = c.index-states-i.result in
    let y = c.index.result.now in
    let i = c.states.i in
    let same : x ≡ y = g.met.S.RunState.identical x y (is-true (g.S.PartialEq.eq x y) (sym c.if-ne.false ∙ c.ne.ensures)) in
    let l : i < length xs = omega (arith, c.if-states-count.false, c.states-test.true) in
    let m : i < length ys = omega (arith, c.args.stack.now.ok.0, c.requires, c.states-test.true) in
    let at : c.len.result - 1 - i ≡ length ys - 1 - i = omega (arith, c.args.stack.now.ok.0, c.len.ensures) in
    let there = c.index.ensures ∙ ap (λ k. get_or ys k y) at ∙ sym (get_or-reverse ys i y m) ∙ ap (get_or (reverse ys) i) (sym same) in
    take-alike xs (reverse ys) i x c.states.invariant l (omega (arith, m, length-reverse ys)) (sym c.index-states-i.is ∙ same ∙ there)
