use Rattle.std.proofs.Common.{◌∙◌, ◌≡◌, ◌≢◌, ◌∷◌, ap, reverse, subst, All}
use Rattle.slt_grammar.specs.Keyed.{rules_of}
use Rattle.slt_grammar.proofs.RuleMeanings.{rank_at-ranks_of}
use Rattle.rule_runs.specs.Entries.{key_of}
use Rattle.rule_runs.specs.Notes.{NoteIs}
use Rattle.rule_runs.specs.Risen.{state_at, keys}
use Rattle.rule_runs.specs.declared.notes.Note.TheVariants.{Call as NoteCall}
use Rattle.rule_runs.proofs.Lists.{reverse-push, all-get, slice_get-map}
use Rattle.rule_runs.proofs.notes.note_label.Goals as goal

pub returns-in_ok-push-in-Known-clause-state : goal.returns-in_ok-push-in-Known-clause-state
returns-in_ok-push-in-Known-clause-state g c = λ note e.
    let A = g.A.Rising.algebra c.args.automaton.now in
    let G = rules_of c.args.grammar.now.rules in
    let call = c.in_ok-place-in-Call.ensures.known c.in-Known.place c.in-Known.state c.in-Known.is in
    let found = all-get (λ e. e.1 ≡ state_at A G e.0) c.args.known.now c.in-Known.place _ c.requires.right call.there in
    let r = ap reverse c.in_ok-push-in-Known.ensures.items ∙ reverse-push c.take_call.new.stack.items c.in-Known.state in
    rw (c.in-Call.is, rank_at-ranks_of G c.in-Call.rule, ← call.others) (r ∙ ap (λ x. x ∷ reverse c.take_call.new.stack.items) found)

pub returns-in_ok-push-in-Known-clause-note : goal.returns-in_ok-push-in-Known-clause-note
returns-in_ok-push-in-Known-clause-note g c = λ note e.
    let A = g.A.Rising.algebra c.args.automaton.now in
    let G = rules_of c.args.grammar.now.rules in
    let call = c.in_ok-place-in-Call.ensures.known c.in-Known.place c.in-Known.state c.in-Known.is in
    let f = slice_get-map (λ e. e.0) c.args.known.now c.in-Known.place _ call.there in
    let k : NoteCall c.in_ok-noted-in-Known.noted ≡ note = cc in
    subst (λ n. NoteIs A G (keys c.args.known.now) c.args.label (reverse c.args.stack.now.items) n) k (rw (c.in_ok-noted-in-Known.ensures, c.in-Call.is, rank_at-ranks_of G c.in-Call.rule) f)

pub returns-in-Unknown-clause-new : goal.returns-in-Unknown-clause-new
returns-in-Unknown-clause-new g c = λ pair e.
    let k : c.in-Unknown.pair ≡ pair = cc in
    subst (λ p. All (λ e. e.0 ≢ key_of p) c.args.known.now) k (c.in_ok-place-in-Call.ensures.new c.in-Unknown.pair c.in-Unknown.is)

pub returns-in-Unknown-clause-asks : goal.returns-in-Unknown-clause-asks
returns-in-Unknown-clause-asks g c = λ pair e.
    let k : c.in-Unknown.pair ≡ pair = cc in
    rw (c.in-Call.is, ← k) (c.in_ok-place-in-Call.ensures.asks c.in-Unknown.pair c.in-Unknown.is)
