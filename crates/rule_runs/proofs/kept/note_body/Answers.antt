use Rattle.std.proofs.Common.{◌∙◌, ap, arith, length}
use Rattle.std.proofs.lemmas.List.{length-append}
use Rattle.slt_grammar.proofs.KeptLemmas.{on-any-error}
use Rattle.rule_runs.specs.Notes.{kept_of}
use Rattle.rule_runs.proofs.KeptNotes.{kept-more, kept-read, within-more, within-read}
use Rattle.rule_runs.proofs.kept.note_body.Goals as goal

pub invariant_of-bodies : goal.invariant_of-bodies
invariant_of-bodies g c =
    let m = c.note_labels.ensures in
    let ns = c.bodies.inside.notes in
    within-more c.bodies.inside.spans.items (length ns) _ (omega (arith, ap length m.1, length-append ns m.0)) c.bodies.invariant

pub returns-clause-noted : goal.returns-clause-noted
returns-clause-noted g c =
    let m = c.in_ok-note_labels.ensures in
    let read = kept-read c.bodies.inside.notes m.0 c.note_labels.new.notes c.bodies.inside.spans.items c.args.bodies.now c.args.pair c.in_ok-span.span c.bodies.invariant c.bodies.view_is m.1 (omega (arith, c.in_ok-span.ensures.begin, c.len-begin.ensures)) (omega (arith, c.in_ok-span.ensures.end, c.len.ensures)) in
    (m.0, read, m.2)

pub invariant_of-bodies-2 : goal.invariant_of-bodies-2
invariant_of-bodies-2 g c =
    let m = c.in_ok-note_labels.ensures in
    let ns = c.bodies.inside.notes in
    within-read c.bodies.inside.spans.items (length ns) _ c.args.pair _ (omega (arith, ap length m.1, length-append ns m.0)) (omega (arith, c.in_ok-span.ensures.begin, c.len-begin.ensures)) (omega (arith, c.in_ok-span.ensures.end, c.len.ensures)) c.bodies.invariant

pub returns-in_err-note_labels-clause-stays : goal.returns-in_err-note_labels-clause-stays
returns-in_err-note_labels-clause-stays g c =
    let m = c.note_labels.ensures in
    let spans = c.bodies.inside.spans.items in
    on-any-error _ c.from_residual.result (ap (λ ns. kept_of ns spans) m.1 ∙ kept-more c.bodies.inside.notes m.0 spans c.bodies.invariant ∙ c.bodies.view_is)

pub returns-in_err-span-clause-stays : goal.returns-in_err-span-clause-stays
returns-in_err-span-clause-stays g c =
    let m = c.in_ok-note_labels.ensures in
    let spans = c.bodies.inside.spans.items in
    on-any-error _ c.from_residual-in_err-span.result (ap (λ ns. kept_of ns spans) m.1 ∙ kept-more c.bodies.inside.notes m.0 spans c.bodies.invariant ∙ c.bodies.view_is)
