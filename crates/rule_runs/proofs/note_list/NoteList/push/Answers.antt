use Rattle.slt_grammar.proofs.KeptLemmas.{on-any-error}
use Rattle.std.proofs.Common.{◌∙◌, ◌≡◌, ap, map}
use Rattle.rule_runs.specs.NoteLists.{in_full}
use Rattle.rule_runs.proofs.NoteLists.{full-kept, full-push, there-push}
use Rattle.rule_runs.proofs.note_list.NoteList.push.Goals as goal

pub returns-in_err-brief-clause-refused : goal.returns-in_err-brief-clause-refused
returns-in_err-brief-clause-refused g c =
    let l = c.self.inside in
    let m = c.shorten.ensures.more in
    on-any-error _ c.from_residual.result (full-kept l.states.items m.0 c.shorten.new.states.items l.notes.items c.args.self.now c.self.invariant c.self.view_is m.1)

pub returns-in_err-push-clause-refused : goal.returns-in_err-push-clause-refused
returns-in_err-push-clause-refused g c =
    let l = c.self.inside in
    let m = c.in_ok-brief.ensures.more in
    let same : c.push.new.self.items ≡ l.notes.items = c.in_err-push.ensures.items in
    on-any-error _ c.from_residual-in_err-push.result (ap (map (in_full c.shorten.new.states.items)) same ∙ full-kept l.states.items m.0 c.shorten.new.states.items l.notes.items c.args.self.now c.self.invariant c.self.view_is m.1)

pub invariant_of-self-2 : goal.invariant_of-self-2
invariant_of-self-2 g c =
    let l = c.self.inside in
    let m = c.in_ok-brief.ensures.more in
    there-push l.states.items m.0 c.shorten.new.states.items l.notes.items c.push.new.self.items c.in_ok-brief.brief c.self.invariant m.1 c.in_ok-push.ensures.items c.in_ok-brief.ensures.there

pub returns-clause-pushed : goal.returns-clause-pushed
returns-clause-pushed g c =
    let l = c.self.inside in
    let m = c.in_ok-brief.ensures.more in
    full-push l.states.items m.0 c.shorten.new.states.items l.notes.items c.push.new.self.items c.in_ok-brief.brief c.args.self.now c.args.note c.self.invariant c.self.view_is m.1 c.in_ok-push.ensures.items c.in_ok-brief.ensures.full
