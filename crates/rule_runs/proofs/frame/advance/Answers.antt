use Rattle.std.proofs.Common.{◌∙◌, ◌≡◌, ◌≤◌, ◌-◌, ◌++◌, length, get_or, sym, ap, arith, subst, drop, reverse}
use Rattle.slt_grammar.specs.Keyed.{rules_of}
use Rattle.slt_grammar.proofs.KeyedLemmas.{length-rules_of}
use Rattle.rule_runs.specs.Entries.{key_of}
use Rattle.slt_grammar.specs.Grammars.{body_at}
use Rattle.rule_runs.specs.Notes.{NoteIs, AreNotes, AreNotesFrom}
use Rattle.rule_runs.specs.Risen.{state_at, keys, AreKnown}
use Rattle.rule_runs.proofs.Noting.{frame-param, frame-other, frame-noted_to, note-known}
use Rattle.rule_runs.proofs.Frames.{label-next, label-taken, label-there, param-left, param-stands, param-own, other-enough, other-own, other-stands, asks-own, known-own, call-there, call-own, call-waits, root-taken, root-there, waits-since, frame-front, frame-stops}
use Rattle.rule_runs.proofs.Lists.{no_more}
use Rattle.rule_runs.proofs.frame.advance.Goals as goal

pub unreachable-requires : goal.unreachable-requires
unreachable-requires g c =
    let G = rules_of c.args.grammar.now.rules in
    let f = c.nodes.frame in
    let others = c.requires.labels.0 in
    let none = rw (no_more c.pop.result c.in_default.not-Some) at c.pop.ensures in
    label-there G f c.nodes-test.true c.nodes.invariant.stands.evaluated.within c.nodes.labels.items others (omega (arith, none.cases.0, c.nodes.labels.ok.0)) (c.nodes.invariant.labels others c.requires.labels.1)

pub overflow_sub-frame-in-Param : goal.overflow_sub-frame-in-Param
overflow_sub-frame-in-Param g c =
    let A = g.A.Rising.algebra c.args.automaton.now in
    let G = rules_of c.args.grammar.now.rules in
    let f = c.nodes.frame in
    let stands = c.nodes.invariant.stands in
    let next = label-next G f c.nodes-test.true stands.evaluated.within c.nodes.labels.items c.pop.new.self.items c.requires.labels.0 c.in-Some.label c.in-Some.ensures.items (c.nodes.invariant.labels c.requires.labels.0 c.requires.labels.1) in
    (param-left A G c.rules-rules.ensures.grammar f stands c.nodes-test.true c.in-Some.label next.0 c.in-Param.is).0

pub copy_at-requires : goal.copy_at-requires
copy_at-requires g c =
    let A = g.A.Rising.algebra c.args.automaton.now in
    let G = rules_of c.args.grammar.now.rules in
    let f = c.nodes.frame in
    let stands = c.nodes.invariant.stands in
    let next = label-next G f c.nodes-test.true stands.evaluated.within c.nodes.labels.items c.pop.new.self.items c.requires.labels.0 c.in-Some.label c.in-Some.ensures.items (c.nodes.invariant.labels c.requires.labels.0 c.requires.labels.1) in
    let p = (param-left A G c.rules-rules.ensures.grammar f stands c.nodes-test.true c.in-Some.label next.0 c.in-Param.is).1 in
    omega (arith, p, ap length c.deref.ensures.value, f.pair.states.ok.0)

pub nodes-preserved-in_ok-put_note : goal.nodes-preserved-in_ok-put_note
nodes-preserved-in_ok-put_note g c =
    let A = g.A.Rising.algebra c.args.automaton.now in
    let G = rules_of c.args.grammar.now.rules in
    let grammar = c.rules-rules.ensures.grammar in
    let f = c.nodes.frame in
    let stands = c.nodes.invariant.stands in
    let more = c.nodes-test.true in
    let l = c.in-Some.label in
    let is = (label-next G f more stands.evaluated.within c.nodes.labels.items c.pop.new.self.items c.requires.labels.0 l c.in-Some.ensures.items (c.nodes.invariant.labels c.requires.labels.0 c.requires.labels.1)).0 in
    let s = c.in_ok-copy_at.field-0 in
    let taken = c.in_ok-copy_at.ensures ∙ ap (λ xs. get_or xs (f.waiting - 1) s) c.deref.ensures.value in
    record {
      stands = param-stands A G grammar f stands more l s is c.in-Param.is taken;
      states = λ others on_top. param-own A G grammar f stands more l s c.nodes.stack.items c.push.new.self.items others is c.in-Param.is taken c.in_ok-push.ensures.items (c.nodes.invariant.states others on_top);
      labels = label-taken G f more stands.evaluated.within _ _ c.nodes.labels.items c.pop.new.self.items l c.in-Some.ensures.items c.nodes.invariant.labels;
      closed = frame-front A G grammar f stands more c.args.known.now l is c.nodes.invariant.closed (λ q e. let p = c.in-Param.is in absurd (cc));
      noted = λ t. rw (c.in_ok-put_note.ensures.top t) (frame-param A G grammar f stands more (keys c.args.known.now) l is c.nodes.notes.top (c.nodes.invariant.noted t) c.in-Param.is);
      below = c.in_ok-put_note.ensures.below ∙ c.nodes.invariant.below;
      same = c.nodes.invariant.same;
      fewer = let h = c.nodes.invariant.fewer in omega arith;
    }

pub note_label-requires : goal.note_label-requires
note_label-requires g c =
    let A = g.A.Rising.algebra c.args.automaton.now in
    let G = rules_of c.args.grammar.now.rules in
    let grammar = c.rules-rules.ensures.grammar in
    let f = c.nodes.frame in
    let stands = c.nodes.invariant.stands in
    let more = c.nodes-test.true in
    let l = c.in-Some.label in
    let is = (label-next G f more stands.evaluated.within c.nodes.labels.items c.pop.new.self.items c.requires.labels.0 l c.in-Some.ensures.items (c.nodes.invariant.labels c.requires.labels.0 c.requires.labels.1)).0 in
    record {
      right = c.requires.right;
      there = λ q e. let t = call-there A G grammar f stands more l q is e in omega (arith, t, length-rules_of c.args.grammar.now.rules);
      enough = other-enough A G grammar f stands more l c.nodes.stack c.requires.states.0 is (c.nodes.invariant.states c.requires.states.0 c.requires.states.1);
      real = c.in_default-label.not-Param;
    }

pub nodes-preserved : goal.nodes-preserved
nodes-preserved g c =
    let A = g.A.Rising.algebra c.args.automaton.now in
    let G = rules_of c.args.grammar.now.rules in
    let grammar = c.rules-rules.ensures.grammar in
    let f = c.nodes.frame in
    let stands = c.nodes.invariant.stands in
    let more = c.nodes-test.true in
    let l = c.in-Some.label in
    let real = c.in_default-label.not-Param in
    let is = (label-next G f more stands.evaluated.within c.nodes.labels.items c.pop.new.self.items c.requires.labels.0 l c.in-Some.ensures.items (c.nodes.invariant.labels c.requires.labels.0 c.requires.labels.1)).0 in
    let top = c.nodes.invariant.states c.requires.states.0 c.requires.states.1 in
    record {
      stands = other-stands A G grammar f stands more l is real;
      states = λ others on_top. other-own A G grammar f stands more l (reverse c.nodes.stack.items) others is (c.nodes.invariant.states others on_top) (reverse c.note_label.new.stack.items) real (c.in_ok-note.ensures.state c.in-Known.note c.in-Known.is);
      labels = label-taken G f more stands.evaluated.within _ _ c.nodes.labels.items c.pop.new.self.items l c.in-Some.ensures.items c.nodes.invariant.labels;
      closed = frame-front A G grammar f stands more c.args.known.now l is c.nodes.invariant.closed (λ q e. known-own A G grammar f stands more l (reverse c.nodes.stack.items) c.requires.states.0 is top c.args.known.now q e (note-known A G (keys c.args.known.now) q (reverse c.nodes.stack.items) c.in-Known.note (subst (λ x. NoteIs A G (keys c.args.known.now) x (reverse c.nodes.stack.items) c.in-Known.note) e (c.in_ok-note.ensures.note c.in-Known.note c.in-Known.is))));
      noted = λ t. rw (c.in_ok-put_note-in-Known.ensures.top t) (frame-other A G grammar f stands more (keys c.args.known.now) l is c.nodes.notes.top (c.nodes.invariant.noted t) (reverse c.nodes.stack.items) c.requires.states.0 c.in-Known.note real top (c.in_ok-note.ensures.note c.in-Known.note c.in-Known.is));
      below = c.in_ok-put_note-in-Known.ensures.below ∙ c.nodes.invariant.below;
      same = c.nodes.invariant.same;
      fewer = let h = c.nodes.invariant.fewer in omega arith;
    }

pub returns-in-Unknown : goal.returns-in-Unknown
returns-in-Unknown g c =
    let A = g.A.Rising.algebra c.args.automaton.now in
    let G = rules_of c.args.grammar.now.rules in
    let grammar = c.rules-rules.ensures.grammar in
    let f = c.nodes.frame in
    let stands = c.nodes.invariant.stands in
    let more = c.nodes-test.true in
    let l = c.in-Some.label in
    let real = c.in_default-label.not-Param in
    let is = (label-next G f more stands.evaluated.within c.nodes.labels.items c.pop.new.self.items c.requires.labels.0 l c.in-Some.ensures.items (c.nodes.invariant.labels c.requires.labels.0 c.requires.labels.1)).0 in
    let asks = c.in_ok-note.ensures.asks c.in-Unknown.pair c.in-Unknown.is in
    let own_asks = (asks-own A G grammar f stands more l (reverse c.nodes.stack.items) c.requires.states.0 is (c.nodes.invariant.states c.requires.states.0 c.requires.states.1) c.in-Unknown.pair (reverse c.note_label.new.stack.items) asks).0 in
    let w = call-waits A G grammar f stands more l c.in-Unknown.pair _ is real own_asks in
    let o = call-own A G grammar f stands more l c.in-Unknown.pair _ is real own_asks in
    record {
      closed = λ state e. absurd (cc);
      noted = λ state e t. absurd (cc);
      behind = λ pair e t. let k : c.in-Unknown.pair ≡ pair = cc in rw (← k) (frame-noted_to A G grammar f stands more (keys c.args.known.now) l is c.nodes.notes.top (c.nodes.invariant.noted t) c.in-Unknown.pair _ own_asks);
      below = c.nodes.invariant.below;
      awaiting = λ pair e. let k : c.in-Unknown.pair ≡ pair = cc in rw (← k) (frame-stops A G grammar f stands more c.args.known.now l c.in-Unknown.pair _ is own_asks c.nodes.invariant.closed);
      same = c.nodes.invariant.same;
      done = λ state e. absurd (cc);
      waits = λ pair e. let k : c.in-Unknown.pair ≡ pair = cc in rw (← k) (waits-since A G f c.args.frame.now c.in-Unknown.pair _ w c.nodes.invariant.same c.nodes.invariant.fewer);
      new = λ pair e. let k : c.in-Unknown.pair ≡ pair = cc in rw (← k) (c.in_ok-note.ensures.new c.in-Unknown.pair c.in-Unknown.is);
      cleared = λ state e. absurd (cc);
      emptied = λ state e. absurd (cc);
      states = λ pair e others on_top. (asks-own A G grammar f stands more l (reverse c.nodes.stack.items) others is (c.nodes.invariant.states others on_top) c.in-Unknown.pair (reverse c.note_label.new.stack.items) asks).1 ∙ ap (λ ss. ss ++ others) (sym (ap (drop 1) o));
      labels = λ pair e. label-taken G f more stands.evaluated.within _ _ c.nodes.labels.items c.pop.new.self.items l c.in-Some.ensures.items c.nodes.invariant.labels;
    }

pub unreachable-requires-in-None : goal.unreachable-requires-in-None
unreachable-requires-in-None g c =
    let A = g.A.Rising.algebra c.args.automaton.now in
    let G = rules_of c.args.grammar.now.rules in
    root-there A G c.rules-rules.ensures.grammar c.nodes.frame c.nodes.invariant.stands (omega arith) c.nodes.stack.items c.requires.states.0 (omega (arith, c.in-None.ensures.cases.0, c.nodes.stack.ok.0)) (c.nodes.invariant.states c.requires.states.0 c.requires.states.1)

pub returns : goal.returns
returns g c =
    let A = g.A.Rising.algebra c.args.automaton.now in
    let G = rules_of c.args.grammar.now.rules in
    let f = c.nodes.frame in
    let s = c.in-Some-pop.state in
    let z : f.left ≡ 0 = omega arith in
    let ended : f.left ≤ 0 = omega arith in
    let is = (root-taken A G c.rules-rules.ensures.grammar f c.nodes.invariant.stands ended s c.nodes.stack.items c.pop-2.new.self.items c.requires.states.0 c.in-Some-pop.ensures.items (c.nodes.invariant.states c.requires.states.0 c.requires.states.1)).0 in
    record {
      same = c.nodes.invariant.same;
      closed = λ state e. subst (λ p. AreKnown A G c.args.known.now (key_of p) 0) c.nodes.invariant.same (subst (λ n. AreKnown A G c.args.known.now (key_of f.pair) n) z c.nodes.invariant.closed);
      awaiting = λ pair e. absurd (cc);
      noted = λ state e t. subst (λ p. AreNotes A G (keys c.args.known.now) p.states.items (body_at G p.rule) c.nodes.notes.top) c.nodes.invariant.same (subst (λ n. AreNotesFrom A G (keys c.args.known.now) n f.pair.states.items (body_at G f.pair.rule) c.nodes.notes.top) z (c.nodes.invariant.noted t));
      behind = λ pair e t. absurd (cc);
      below = c.nodes.invariant.below;
      done = λ state e. let k : s ≡ state = cc in sym k ∙ is ∙ ap (λ p. state_at A G (key_of p)) c.nodes.invariant.same;
      waits = λ pair e. absurd (cc);
      new = λ pair e. absurd (cc);
      cleared = λ state e others on_top. (root-taken A G c.rules-rules.ensures.grammar f c.nodes.invariant.stands ended s c.nodes.stack.items c.pop-2.new.self.items others c.in-Some-pop.ensures.items (c.nodes.invariant.states others on_top)).1;
      emptied = λ state e others on_top. rw z at (c.nodes.invariant.labels others on_top);
      states = λ pair e. absurd (cc);
      labels = λ pair e. absurd (cc);
    }
