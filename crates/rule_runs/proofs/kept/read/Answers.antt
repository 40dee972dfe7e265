use Rattle.std.proofs.Common.{◌≡◌, ◌<◌, ◌∙◌, ◌++◌, [], sym, ap, subst, arith, reverse, length, slice_get, All}
use Rattle.std.proofs.lemmas.List.Elements.{All-get_or}
use Rattle.std.proofs.lemmas.List.{length-reverse}
use Rattle.slt_grammar.specs.Keyed.{rules_of}
use Rattle.slt_grammar.specs.Grammars.{body_at}
use Rattle.rule_runs.specs.Reached.{RuleStates}
use Rattle.rule_runs.specs.Notes.{AreKept, AreNotes, HasBody, unread}
use Rattle.rule_runs.specs.Risen.{state_at, keys, pair_at, AreKnown}
use Rattle.rule_runs.proofs.KeptNotes.{set-there, has-set, kept-set, own-length, own-set, unread-some, unread-set}
use Rattle.rule_runs.proofs.Lists.{no_more}
use Rattle.rule_runs.proofs.NoteLemmas.{notes-length}
use Rattle.rule_runs.proofs.kept.read.Goals as goal

pub returns-in-Some-clause-nodes : goal.returns-in-Some-clause-nodes
returns-in-Some-clause-nodes g c =
    let A = g.A.Rising.algebra c.args.automaton.now in
    let G = rules_of c.args.grammar.now.rules in
    let ks = keys c.args.risen.now.known in
    let k = pair_at ks c.args.pair in
    let noted = c.requires.kept.noted c.args.pair c.in-Some.notes c.in-Some.ensures.some in
    omega (arith, notes-length A G ks k.1 (body_at G k.0) (reverse c.in-Some.notes) noted, length-reverse c.in-Some.notes)

pub note_body-requires-clause-closed : goal.note_body-requires-clause-closed
note_body-requires-clause-closed g c =
    let A = g.A.Rising.algebra c.args.automaton.now in
    let G = rules_of c.args.grammar.now.rules in
    let es = c.args.risen.now.known in
    let kn = ap (λ r. r.known) c.risen.view_is in
    let k : (c.in-Some-pair.met.0, c.in-Some-pair.met.1.now) ≡ pair_at (keys es) c.args.pair = c.in-Some-pair.ensures.pair ∙ ap (λ x. pair_at (keys x) c.args.pair) kn in
    let h = All-get_or (λ k. AreKnown A G es k 0) (keys es) c.args.pair (0, []) c.requires.there c.requires.run.closed in
    subst (λ x. AreKnown A G x (c.in-Some-pair.met.0, c.in-Some-pair.met.1.now) 0) (sym kn) (subst (λ x. AreKnown A G es x 0) (sym k) h)

pub note_body-requires-clause-right : goal.note_body-requires-clause-right
note_body-requires-clause-right g c =
    let A = g.A.Rising.algebra c.args.automaton.now in
    let G = rules_of c.args.grammar.now.rules in
    let kn = ap (λ r. r.known) c.risen.view_is in
    subst (λ es. All (λ e. e.1 ≡ state_at A G e.0) es) (sym kn) c.requires.run.right

pub note_body-requires-clause-there : goal.note_body-requires-clause-there
note_body-requires-clause-there g c =
    let r = c.bodies.inside in
    omega (arith, c.requires.there, c.requires.kept.rows, own-length r.noted.now r.own c.args.bodies.now c.bodies.view_is c.bodies.invariant)

pub returns-clause-kept : goal.returns-clause-kept
returns-clause-kept g c =
    let A = g.A.Rising.algebra c.args.automaton.now in
    let G = rules_of c.args.grammar.now.rules in
    let ks = keys c.args.risen.now.known in
    let ms = c.args.bodies.now in
    let none : HasBody ms c.args.pair → ⊥ = rw (no_more c.notes.result c.in_default.not-Some) at c.notes.ensures.none in
    let within : c.args.pair < length ms = (let r = c.requires.kept.rows in let t = c.requires.there in omega arith) in
    let kn = ap (λ r. r.known) c.risen.view_is in
    let k : (c.in-Some-pair.met.0, c.in-Some-pair.met.1.now) ≡ pair_at ks c.args.pair = c.in-Some-pair.ensures.pair ∙ ap (λ x. pair_at (keys x) c.args.pair) kn in
    let b : c.append_body.new.labels.items ≡ body_at G c.in-Some-pair.met.0 = c.in_ok-append_body.ensures.labels ∙ ap (λ xs. xs ++ body_at G c.in-Some-pair.met.0) c.clear.ensures.items in
    let m = c.in_ok-note_body.ensures.noted in
    let read = own-set c.bodies.inside.noted.now c.bodies.inside.own ms c.bodies.view_is c.bodies.invariant c.note_body.new.bodies c.args.pair m.0 within none m.1 in
    let n0 : AreNotes A G ks c.in-Some-pair.met.1.now c.append_body.new.labels.items (reverse m.0) = rw kn at m.2 in
    let n1 : AreNotes A G ks c.in-Some-pair.met.1.now (body_at G c.in-Some-pair.met.0) (reverse m.0) = rw b at n0 in
    let n2 : AreNotes A G ks (pair_at ks c.args.pair).1 (body_at G (pair_at ks c.args.pair).0) (reverse m.0) = subst (λ (x : RuleStates g.row.A-State.Denot). AreNotes A G ks x.1 (body_at G x.0) (reverse m.0)) k n1 in
    subst (λ new. AreKept A G ks new) (sym read) (kept-set A G ks ms c.args.pair m.0 c.requires.kept n2)

pub returns-clause-stays : goal.returns-clause-stays
returns-clause-stays g c = λ i h.
    let ms = c.args.bodies.now in
    let none : HasBody ms c.args.pair → ⊥ = rw (no_more c.notes.result c.in_default.not-Some) at c.notes.ensures.none in
    let within : c.args.pair < length ms = (let r = c.requires.kept.rows in let t = c.requires.there in omega arith) in
    let m = c.in_ok-note_body.ensures.noted in
    let read = own-set c.bodies.inside.noted.now c.bodies.inside.own ms c.bodies.view_is c.bodies.invariant c.note_body.new.bodies c.args.pair m.0 within none m.1 in
    subst (λ new. HasBody new i) (sym read) (has-set ms c.args.pair m.0 i h)

pub returns-clause-read : goal.returns-clause-read
returns-clause-read g c =
    let ms = c.args.bodies.now in
    let none : HasBody ms c.args.pair → ⊥ = rw (no_more c.notes.result c.in_default.not-Some) at c.notes.ensures.none in
    let within : c.args.pair < length ms = (let r = c.requires.kept.rows in let t = c.requires.there in omega arith) in
    let m = c.in_ok-note_body.ensures.noted in
    let read = own-set c.bodies.inside.noted.now c.bodies.inside.own ms c.bodies.view_is c.bodies.invariant c.note_body.new.bodies c.args.pair m.0 within none m.1 in
    (m.0, ap (λ new. slice_get new c.args.pair) read ∙ set-there ms c.args.pair _ within)

pub returns-in_err-append_body-clause-reads : goal.returns-in_err-append_body-clause-reads
returns-in_err-append_body-clause-reads g c =
    let G = rules_of c.args.grammar.now.rules in
    let ks = keys c.args.risen.now.known in
    let ms = c.args.bodies.now in
    let none : HasBody ms c.args.pair → ⊥ = rw (no_more c.notes.result c.in_default.not-Some) at c.notes.ensures.none in
    let within : c.args.pair < length ms = (let r = c.requires.kept.rows in let t = c.requires.there in omega arith) in
    let kn = ap (λ r. r.known) c.risen.view_is in
    let k : (c.in-Some-pair.met.0, c.in-Some-pair.met.1.now) ≡ pair_at ks c.args.pair = c.in-Some-pair.ensures.pair ∙ ap (λ x. pair_at (keys x) c.args.pair) kn in
    let n : length (body_at G c.in-Some-pair.met.0) ≡ length (body_at G (pair_at ks c.args.pair).0) = ap (λ (x : RuleStates g.row.A-State.Denot). length (body_at G x.0)) k in
    let h = c.append_body.ensures.steps in
    omega (arith, unread-some G ks ms c.args.pair c.requires.there within none)

pub returns-in_err-note_body-clause-reads : goal.returns-in_err-note_body-clause-reads
returns-in_err-note_body-clause-reads g c =
    let G = rules_of c.args.grammar.now.rules in
    let ks = keys c.args.risen.now.known in
    let ms = c.args.bodies.now in
    let none : HasBody ms c.args.pair → ⊥ = rw (no_more c.notes.result c.in_default.not-Some) at c.notes.ensures.none in
    let within : c.args.pair < length ms = (let r = c.requires.kept.rows in let t = c.requires.there in omega arith) in
    let kn = ap (λ r. r.known) c.risen.view_is in
    let k : (c.in-Some-pair.met.0, c.in-Some-pair.met.1.now) ≡ pair_at ks c.args.pair = c.in-Some-pair.ensures.pair ∙ ap (λ x. pair_at (keys x) c.args.pair) kn in
    let n : length (body_at G c.in-Some-pair.met.0) ≡ length (body_at G (pair_at ks c.args.pair).0) = ap (λ (x : RuleStates g.row.A-State.Denot). length (body_at G x.0)) k in
    let h = c.append_body.ensures.steps in
    omega (arith, unread-some G ks ms c.args.pair c.requires.there within none)

pub returns-clause-reads : goal.returns-clause-reads
returns-clause-reads g c =
    let G = rules_of c.args.grammar.now.rules in
    let ks = keys c.args.risen.now.known in
    let ms = c.args.bodies.now in
    let none : HasBody ms c.args.pair → ⊥ = rw (no_more c.notes.result c.in_default.not-Some) at c.notes.ensures.none in
    let within : c.args.pair < length ms = (let r = c.requires.kept.rows in let t = c.requires.there in omega arith) in
    let kn = ap (λ r. r.known) c.risen.view_is in
    let k : (c.in-Some-pair.met.0, c.in-Some-pair.met.1.now) ≡ pair_at ks c.args.pair = c.in-Some-pair.ensures.pair ∙ ap (λ x. pair_at (keys x) c.args.pair) kn in
    let n : length (body_at G c.in-Some-pair.met.0) ≡ length (body_at G (pair_at ks c.args.pair).0) = ap (λ (x : RuleStates g.row.A-State.Denot). length (body_at G x.0)) k in
    let h = c.append_body.ensures.steps in
    omega (arith, unread-some G ks ms c.args.pair c.requires.there within none)

pub returns-clause-once : goal.returns-clause-once
returns-clause-once g c =
    let G = rules_of c.args.grammar.now.rules in
    let ks = keys c.args.risen.now.known in
    let ms = c.args.bodies.now in
    let none : HasBody ms c.args.pair → ⊥ = rw (no_more c.notes.result c.in_default.not-Some) at c.notes.ensures.none in
    let within : c.args.pair < length ms = (let r = c.requires.kept.rows in let t = c.requires.there in omega arith) in
    let kn = ap (λ r. r.known) c.risen.view_is in
    let k : (c.in-Some-pair.met.0, c.in-Some-pair.met.1.now) ≡ pair_at ks c.args.pair = c.in-Some-pair.ensures.pair ∙ ap (λ x. pair_at (keys x) c.args.pair) kn in
    let n : length (body_at G c.in-Some-pair.met.0) ≡ length (body_at G (pair_at ks c.args.pair).0) = ap (λ (x : RuleStates g.row.A-State.Denot). length (body_at G x.0)) k in
    let h = c.append_body.ensures.steps in
    let m = c.in_ok-note_body.ensures.noted in
    let read = own-set c.bodies.inside.noted.now c.bodies.inside.own ms c.bodies.view_is c.bodies.invariant c.note_body.new.bodies c.args.pair m.0 within none m.1 in
    omega (arith, ap (unread G ks) read, unread-set G ks ms c.args.pair m.0 c.requires.there within none)

pub returns-clause-nodes : goal.returns-clause-nodes
returns-clause-nodes g c =
    let G = rules_of c.args.grammar.now.rules in
    let ks = keys c.args.risen.now.known in
    let kn = ap (λ r. r.known) c.risen.view_is in
    let k : (c.in-Some-pair.met.0, c.in-Some-pair.met.1.now) ≡ pair_at ks c.args.pair = c.in-Some-pair.ensures.pair ∙ ap (λ x. pair_at (keys x) c.args.pair) kn in
    let n : length (body_at G c.in-Some-pair.met.0) ≡ length (body_at G (pair_at ks c.args.pair).0) = ap (λ (x : RuleStates g.row.A-State.Denot). length (body_at G x.0)) k in
    let b : c.append_body.new.labels.items ≡ body_at G c.in-Some-pair.met.0 = c.in_ok-append_body.ensures.labels ∙ ap (λ xs. xs ++ body_at G c.in-Some-pair.met.0) c.clear.ensures.items in
    omega (arith, c.len-2.ensures, ap length b, n, c.append_body.new.labels.ok.0)
