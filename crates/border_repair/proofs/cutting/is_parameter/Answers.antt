use Rattle.std.proofs.Common.{rules, ◌≡◌, ◌≢◌, Option, Some, None, ap, sym, ◌∙◌}
use Rattle.rule_arena.specs.declared.label.Label.{Label}
use Rattle.rule_arena.specs.declared.label.Label.TheVariants.{Param}
use Rattle.border_repair.specs.declared.cutting.Mark.{Mark}
use Rattle.border_repair.proofs.Marks.{parameter-at, parameter-there}
use Rattle.border_repair.proofs.SizeLemmas.{free-at}
use Rattle.border_repair.proofs.cutting.is_parameter.Goals as goal

pub returns-in-Some-mark_at-clause-free : goal.returns-in-Some-mark_at-clause-free
returns-in-Some-mark_at-clause-free c t =
    let m = c.in-Some-mark_at.mark in
    let top : m.top ≡ Param = search rules in
    free-at c.args.marks.now c.args.place c.in-Some.at m c.in-Some.ensures.1 (sym c.mark_at.ensures ∙ c.in-Some-mark_at.is) top

pub returns-in-Some-mark_at-clause-there : goal.returns-in-Some-mark_at-clause-there
returns-in-Some-mark_at-clause-there c t =
    let m = c.in-Some-mark_at.mark in
    let top : m.top ≡ Param = search rules in
    parameter-at c.args.marks.now c.args.place c.in-Some.at m c.in-Some.ensures.1 c.in-Some.ensures.0 (sym c.mark_at.ensures ∙ c.in-Some-mark_at.is) top

pub returns-in-Some-mark_at-clause-none : goal.returns-in-Some-mark_at-clause-none
returns-in-Some-mark_at-clause-none c t h =
    let m = c.in-Some-mark_at.mark in
    let top : m.top ≢ Param = search rules in
    let same = sym c.in-Some-mark_at.is ∙ parameter-there c.args.marks.now c.args.place c.in-Some.at c.mark_at.result c.in-Some.ensures.1 c.mark_at.ensures h in
    top (ap (λ (o : Option Mark). top_of o) same ∙ h.parameter)
  where
    top_of : Option Mark → Label
    top_of None = Param
    top_of (Some m) = m.top

pub returns-in-None-clause-none : goal.returns-in-None-clause-none
returns-in-None-clause-none c t h =
    absurd (none_some h.mark (sym c.in-None.is ∙ parameter-there c.args.marks.now c.args.place c.in-Some.at c.mark_at.result c.in-Some.ensures.1 c.mark_at.ensures h)) where
      none_some : (m : Mark) → ◌≡◌ {A = Option Mark} None (Some m) → ⊥
      none_some m e = cc
