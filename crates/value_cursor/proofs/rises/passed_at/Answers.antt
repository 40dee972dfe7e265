use Rattle.std.proofs.Common.{[], ◌∷◌, arith, refl, sym, subst}
use Rattle.rule_arena.specs.declared.label.Label.{Label}
use Rattle.slt_grammar.specs.Bodies.{CallsBelow}
use Rattle.slt_grammar.specs.Segments.{part_of, preorder, segment}
use Rattle.value_cursor.specs.Rises.{IsOf, IsRise}
use Rattle.value_cursor.specs.declared.rises.Passed.{Passed}
use Rattle.value_cursor.proofs.RiseLemmas.{opens-closes, rise-symbol}
use Rattle.value_cursor.proofs.rises.passed_at.Goals as goal

pub returns-in-Call-default : goal.returns-in-Call-default
returns-in-Call-default c = λ k G h counts rises below.
    let q = c.in-Call-default.rule in
    let e = c.in-Call-default.is-0 in
    let b = subst (λ (l : Label). CallsBelow k (l ∷ [])) e below in
    let n = c.nodes-nodes.ensures.counts counts.0 G counts.1 (omega (arith, b.0, h)) in
    let m = c.all.ensures.counts counts.0 G counts.1 (omega (arith, b.0, h)) in
    let p : Passed = record { opened = c.nodes-nodes.result; closed = c.saturating_sub.result; rise = c.rise_at.result } in
    let ls = segment c.args.part (preorder G q) in
    let made : IsOf p ls = record {
      opened = n;
      closed = omega (arith, n, m, opens-closes ls, c.saturating_sub.ensures);
      rise = subst (λ r. IsRise r ls) (sym c.rise_at.ensures) (rises q c.args.part b.0);
    } in
    subst (λ (l : Label). IsOf p (part_of G l c.args.part)) (sym e) made

pub returns-in-Symbol-eq0 : goal.returns-in-Symbol-eq0
returns-in-Symbol-eq0 c = λ k G h counts rises below. rw (c.in-Symbol-eq0.is-0, c.in-Symbol-eq0.is-1) (record { opened = refl; closed = refl; rise = rise-symbol c.in-Symbol-eq0.field-0-0 })
