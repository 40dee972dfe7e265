use Rattle.std.proofs.Common.{◌∙◌, [], ◌∷◌, ◌++◌, Some, ap, arith, length}
use Rattle.std.proofs.lemmas.List.{length-append}
use Rattle.rule_runs.specs.Notes.{kept_of}
use Rattle.rule_runs.proofs.KeptNotes.{kept-push, within-more}
use Rattle.rule_runs.proofs.kept.Bodies.keep.Goals as goal

pub invariant_of-self : goal.invariant_of-self
invariant_of-self g c =
    let ns = c.self.inside.notes in
    let m = c.append_top.ensures.moved in
    within-more c.self.inside.spans.items (length ns) _ (omega (arith, ap length m.1, length-append ns m.0)) c.self.invariant

pub returns-clause-kept : goal.returns-clause-kept
returns-clause-kept g c = λ t.
    let m = c.in_ok-append_top.ensures.moved in
    ap (kept_of c.append_top.new.self) c.in_ok-push.ensures.items
    ∙ kept-push c.self.inside.notes m.0 c.append_top.new.self c.self.inside.spans.items c.args.self.now c.in_ok-span.span c.self.invariant c.self.view_is m.1 (omega (arith, c.in_ok-span.ensures.begin, c.len-begin.ensures)) (omega (arith, c.in_ok-span.ensures.end, c.len.ensures)) ∙ ap (λ ns. c.args.self.now ++ Some ns ∷ []) m.2
