use Rattle.std.proofs.Common.{◌≡◌, ◌∙◌, ◌∷◌, IsSome, Some, sym, ap, reverse, subst}
use Rattle.rule_runs.specs.Listing.{IsComing, coming}
use Rattle.rule_runs.proofs.Answering.{coming-first, first-coming, first_levels, kept-listed, listed-all}
use Rattle.rule_runs.proofs.Lists.{reverse-push, no_more}
use Rattle.rule_runs.proofs.OneSymbol.{none-alike}
use Rattle.rule_runs.proofs.answers.Answers.new.Goals.{in-Some+in_ok-push, in_default}
use Rattle.rule_runs.proofs.answers.Answers.new.Goals as goal

pub returns : goal.returns
returns c =
    let L = c.fallen.inside.lists in
    let ls = L.lists in
    let whole = c.fallen.inside.whole in
    let e : reverse c.match-fallen.levels.items ≡ first_levels whole.list = elim c.match-fallen.branch [
      | in-Some+in_ok-push w ↦ ap reverse (ap (λ v. v.items) w.levels-is ∙ w.in_ok-push.ensures.items) ∙ reverse-push c.new-levels.result.items _ ∙ ap (λ xs. record { list = w.in-Some.list; next = 0; from = 0 } ∷ reverse xs) c.new-levels.ensures.items ∙ ap first_levels (sym w.in-Some.is)
      | in_default w ↦ ap (λ v. reverse v.items) w.levels-is ∙ ap reverse c.new-levels.ensures.items ∙ ap first_levels (sym (no_more whole.list w.in_default.not-Some))
    ] in
    let kept = kept-listed L whole (subst (λ f. IsSome f.hits) (sym c.fallen.view_is) c.requires) in
    let all = ap (λ x. coming x (reverse c.match-fallen.levels.items)) c.as_slice.ensures ∙ ap (coming ls) e ∙ coming-first ls whole.list c.fallen.invariant.earlier c.fallen.invariant.there in
    ap (λ f. f.hits) (sym c.fallen.view_is) ∙ listed-all L whole kept ∙ ap Some (sym all)

pub invariant_of-result : goal.invariant_of-result
invariant_of-result c =
    let L = c.fallen.inside.lists in
    let kept = kept-listed L c.fallen.inside.whole (subst (λ f. IsSome f.hits) (sym c.fallen.view_is) c.requires) in
    let whole = c.fallen.inside.whole in
    let e : reverse c.match-fallen.levels.items ≡ first_levels whole.list = elim c.match-fallen.branch [
      | in-Some+in_ok-push w ↦ ap reverse (ap (λ v. v.items) w.levels-is ∙ w.in_ok-push.ensures.items) ∙ reverse-push c.new-levels.result.items _ ∙ ap (λ xs. record { list = w.in-Some.list; next = 0; from = 0 } ∷ reverse xs) c.new-levels.ensures.items ∙ ap first_levels (sym w.in-Some.is)
      | in_default w ↦ ap (λ v. reverse v.items) w.levels-is ∙ ap reverse c.new-levels.ensures.items ∙ ap first_levels (sym (no_more whole.list w.in_default.not-Some))
    ] in (
      subst (λ levels. IsComing c.as_slice.result.now levels) (sym e) (subst (λ x. IsComing x (first_levels whole.list)) (sym c.as_slice.ensures) (first-coming L whole c.fallen.invariant kept)),
      none-alike _ _ c.new-alike.ensures.items,
    )
