use Rattle.std.proofs.Common.{◌∙◌, ap, subst, sym, slice_get}
use Rattle.std.proofs.lemmas.Option.{IfSome_then}
use Rattle.rule_runs.specs.Notes.{HasBody}
use Rattle.rule_runs.proofs.KeptNotes.{either-first, either-second, neither}
use Rattle.rule_runs.proofs.Lists.{none-then}
use Rattle.rule_runs.proofs.kept.Reading.notes.Goals as goal

pub returns-in-Some-clause-some : goal.returns-in-Some-clause-some
returns-in-Some-clause-some g c =
    sym (ap (λ v. slice_get v c.args.pair) c.self.view_is) ∙ either-first _ _ c.args.pair c.in-Some.notes c.in-Some.ensures.some

pub returns-in-None-clause-some : goal.returns-in-None-clause-some
returns-in-None-clause-some g c =
    IfSome_then c.notes-in-None.result c.notes-in-None.ensures.some (λ notes e. sym (ap (λ v. slice_get v c.args.pair) c.self.view_is) ∙ either-second _ _ c.args.pair notes (λ v h. c.in-None.ensures.none (v, h)) e)

pub returns-in-None-clause-none : goal.returns-in-None-clause-none
returns-in-None-clause-none g c =
    none-then c.notes-in-None.result _ _ c.notes-in-None.ensures.none (λ none. subst (λ ms. HasBody ms c.args.pair → ⊥) c.self.view_is (λ h. neither _ _ c.args.pair h.0 (λ v e. c.in-None.ensures.none (v, e)) (λ v e. none (v, e)) h.1))
