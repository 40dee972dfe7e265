use Rattle.std.proofs.Common.{rules, ◌≡◌, ◌∷◌, [], ◌-◌, suc, length, reverse, refl, ap, sym, subst, ◌∙◌, arith}
use Rattle.std.proofs.lemmas.List.{length-reverse}
use Rattle.rule_arena.specs.declared.label.Label.{Label}
use Rattle.slt_grammar.specs.Bodies.{params, real_nodes}
use Rattle.border_repair.specs.Cutting.{Holds}
use Rattle.border_repair.specs.Sizes.{free}
use Rattle.border_repair.specs.Splitting.{grown}
use Rattle.border_repair.proofs.CutSteps.{AreTaken, taken-none, taken-more, taken-stuck, inner-holds}
use Rattle.slt_grammar.proofs.Meanings.{params-append}
use Rattle.border_repair.proofs.SizeLemmas.{real-push, no-params}
use Rattle.border_repair.proofs.StackLemmas.{no-items, stack-popped, stack-push}
use Rattle.border_repair.proofs.cutting.add_inner.Goals as goal

pub kids-init : goal.kids-init
kids-init c =
    let o = c.args.cutter.now in
    record {
      taken = taken-none (reverse o.marks.items) (reverse o.parts.items) (reverse o.args.items) c.args.kids c.len.result c.len-2.result
          (c.len.ensures ∙ o.parts.ok.0 ∙ sym (length-reverse o.parts.items)) (c.len-2.ensures ∙ o.args.ok.0 ∙ sym (length-reverse o.args.items));
      parts = refl;
      args = refl;
      inner = refl;
      top = refl;
      few = omega arith;
    }

pub kids-preserved : goal.kids-preserved
kids-preserved c =
    let o = c.args.cutter.now in
    let i = c.kids.invariant in
    let more : c.kids.left ≡ suc (c.kids.left - 1) = omega arith in
    record {
      taken = taken-more (reverse o.marks.items) (reverse o.parts.items) (reverse o.args.items) c.args.kids (c.kids.left - 1) (reverse c.kids.cutter.marks.items) (reverse c.pop.new.self.items) c.in-Some.kid c.kids.mark.part c.kids.mark.args
          (subst (λ n. AreTaken (reverse o.marks.items) (reverse o.parts.items) (reverse o.args.items) c.args.kids n (reverse c.kids.cutter.marks.items) c.kids.mark.part c.kids.mark.args) more i.taken)
          (stack-popped c.kids.cutter.marks.items c.pop.new.self.items c.in-Some.kid c.in-Some.ensures.items);
      parts = i.parts;
      args = i.args;
      inner = i.inner;
      top = i.top;
      few = omega (arith, i.few, ap free (stack-popped c.kids.cutter.marks.items c.pop.new.self.items c.in-Some.kid c.in-Some.ensures.items));
    }

pub returns-in_default-clause-held : goal.returns-in_default-clause-held
returns-in_default-clause-held c w =
    let o = c.args.cutter.now in
    let more : c.kids.left ≡ suc (c.kids.left - 1) = omega arith in
    let none : length c.kids.cutter.marks.items ≡ 0 = search rules in
    let i = subst (λ n. AreTaken (reverse o.marks.items) (reverse o.parts.items) (reverse o.args.items) c.args.kids n (reverse c.kids.cutter.marks.items) c.kids.mark.part c.kids.mark.args) more c.kids.invariant.taken in
    absurd (taken-stuck (reverse o.marks.items) (reverse o.parts.items) (reverse o.args.items) c.args.kids (c.kids.left - 1) c.kids.mark.part c.kids.mark.args
    (subst (λ ms. AreTaken (reverse o.marks.items) (reverse o.parts.items) (reverse o.args.items) c.args.kids (suc (c.kids.left - 1)) ms c.kids.mark.part c.kids.mark.args) (no-items c.kids.cutter.marks.items none) i) w)

pub returns-clause-held : goal.returns-clause-held
returns-clause-held c w =
    let o = c.args.cutter.now in
    let i = c.kids.invariant in
    let end : c.kids.left ≡ 0 = omega arith in
    let M = reverse o.marks.items in
    let P = reverse o.parts.items in
    let A = reverse o.args.items in
    let taken = subst (λ n. AreTaken M P A c.args.kids n (reverse c.kids.cutter.marks.items) c.kids.mark.part c.kids.mark.args) end i.taken in
    let h = inner-holds M P A c.args.kids (reverse c.kids.cutter.marks.items) (reverse c.push.new.self.items) c.kids.mark c.args.label w taken
    (ap reverse c.in_ok-push.ensures.items ∙ stack-push c.kids.cutter.marks.items c.kids.mark) i.inner c.requires i.top in
    let parts = ap reverse c.in_ok-push-2.ensures.items ∙ stack-push c.kids.cutter.parts.items c.args.label ∙ ap (λ z. c.args.label ∷ reverse z) i.parts in
    subst (λ ps. Holds (reverse c.push.new.self.items) ps (reverse c.kids.cutter.args.items) (grown c.args.label w.kids ∷ w.pieces)) (sym parts)
    (subst (λ xs. Holds (reverse c.push.new.self.items) (c.args.label ∷ P) xs (grown c.args.label w.kids ∷ w.pieces)) (ap reverse (sym i.args)) h)

pub returns-clause-small : goal.returns-clause-small
returns-clause-small c =
    let n = c.requires in
    let i = c.kids.invariant in
    let marks = ap free (ap reverse c.in_ok-push.ensures.items ∙ stack-push c.kids.cutter.marks.items c.kids.mark) in
    let top = ap (λ (l : Label). params (l ∷ [])) i.top in
    let args = ap real_nodes i.args in
    record {
      ruled = omega (arith, ap real_nodes c.in_ok-push-2.ensures.items, real-push c.kids.cutter.parts.items c.args.label, ap real_nodes i.parts);
      any = omega (arith, marks, top, args, i.few, no-params c.args.label n);
      others = λ r. omega (arith, marks, top, args, i.few, no-params c.args.label n);
    }

pub returns-clause-ranks : goal.returns-clause-ranks
returns-clause-ranks c =
    omega (arith, ap params c.in_ok-push-2.ensures.items, params-append c.kids.cutter.parts.items (c.args.label ∷ []), no-params c.args.label c.requires, ap params c.kids.invariant.parts)
