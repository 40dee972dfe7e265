use Rattle.std.proofs.Common.{◌≡◌, List, ◌<◌, ◌^◌, ◌∙◌, ◌≤◌, ◌-◌, ◌++◌, ◌∷◌, [], refl, sym, ap, subst, arith, reverse, take, map, length}
use Rattle.std.proofs.lemmas.List.Elements.{All-contains, All-get_or}
use Rattle.slt_grammar.specs.Automata.{nodes_in}
use Rattle.slt_grammar.specs.Keyed.{rules_of}
use Rattle.slt_grammar.specs.Grammars.{body_at, value_at}
use Rattle.rule_runs.specs.Cuts.{cut}
use Rattle.rule_runs.specs.Descents.{Asks, Walks, HasOutcome}
use Rattle.rule_runs.specs.Notes.{AreNotes}
use Rattle.rule_runs.specs.NoteLists.{seen}
use Rattle.rule_runs.specs.declared.spots.Handed.{Handed}
use Rattle.rule_runs.specs.declared.spots.Spot.{Spot}
use Rattle.rule_runs.specs.Outcomes.{outcome, befores, downs_handed}
use Rattle.rule_runs.specs.Risen.{IsPair, keys, pair_at}
use Rattle.rule_runs.specs.Tellings.{extended, AreTold, Tells}
use Rattle.rule_runs.specs.Walks.{absorbed}
use Rattle.rule_runs.proofs.Lists.{reverse-last, no_more, slice_get-at}
use Rattle.rule_runs.proofs.NoteLemmas.{same-reversed}
use Rattle.rule_runs.proofs.Descents.{outcome-more, walk-next, walk-open, walk-bottom, walk-symbol, walk-call, walk-meets, walk-param, walk-end}
use Rattle.rule_runs.proofs.Marks.{open-term}
use Rattle.rule_runs.proofs.Passing.{same-done, same-waits}
use Rattle.rule_runs.proofs.Rooms.{walk-room, walk-room-one, walk-room-call}
use Rattle.rule_runs.proofs.Tellings.{extended-none, extended-twice, told-more, told-push}
use Rattle.std.proofs.lemmas.List.{map-append}
use Rattle.rule_runs.proofs.descent.descend.Goals as goal

pub notes-init : goal.notes-init
notes-init g c =
    let A = g.A.Rising.algebra c.args.automaton.now in
    let W = g.A.Falling.downward c.args.automaton.now in
    let G = rules_of c.args.grammar.now.rules in
    let ks = keys c.args.risen.now.known in
    let f = c.args.descent.now in
    let k = pair_at ks f.spot.pair in
    let ns = c.args.notes in
    let st = c.requires.stands in
    let same = same-reversed A G ks c.requires.run.distinct k.1 (body_at G k.0) st.notes ns st.noted c.requires.noted in
    record {
      same = refl;
      more = ([], sym (extended-none c.args.lists.now));
      earlier = c.requires.earlier;
      stands = subst (λ xs. Walks A W G ks c.args.lists.now k f.spot.down (reverse (take f.left xs)) c.args.marks.now.top f.here f.handed.items) same st.walks;
      below = refl;
      fewer = omega arith;
      within = subst (λ xs. f.left ≤ length xs) same st.within;
    }

pub next_term-requires : goal.next_term-requires
next_term-requires g c =
    let A = g.A.Rising.algebra c.args.automaton.now in
    let W = g.A.Falling.downward c.args.automaton.now in
    let G = rules_of c.args.grammar.now.rules in
    let ks = keys c.args.risen.now.known in
    let f = c.notes.descent in
    let k = pair_at ks f.spot.pair in
    let ls = c.notes.lists in
    let small : nodes_in (value_at G k.0) < 2 ^ 63 = subst (λ s. nodes_in (value_at G (pair_at ks s.pair).0) < 2 ^ 63) (sym c.notes.invariant.same) c.requires.small in
    walk-room A W G ks ls k f.spot.down f.handed.items (reverse (take f.left c.args.notes)) c.notes.marks.top f.here c.notes.invariant.stands small

pub unreachable-requires : goal.unreachable-requires
unreachable-requires g c =
    let A = g.A.Rising.algebra c.args.automaton.now in
    let W = g.A.Falling.downward c.args.automaton.now in
    let G = rules_of c.args.grammar.now.rules in
    let ks = keys c.args.risen.now.known in
    let f = c.notes.descent in
    let k = pair_at ks f.spot.pair in
    let ls = c.notes.lists in
    let ns = c.args.notes in
    let n = seen c.at-note.result in
    let p = reverse-last ns f.left (f.left - 1) n (let t = c.notes-test.true in omega arith) c.notes.invariant.within (sym (slice_get-at ns (f.left - 1) n n c.at-note.ensures).1) in
    let w = rw p at c.notes.invariant.stands in
    let next = rw (no_more c.in_ok-down.field-0 c.in_default.not-Some) at (c.in_ok-down.ensures.next ls w.s w.ms w.telling w.marked) in
    walk-open A W G ks ls k f.spot.down f.handed.items n (reverse (take (f.left - 1) ns)) c.notes.marks.top f.here w next.is

pub notes-preserved-in-Bottom-1 : goal.notes-preserved-in-Bottom-1
notes-preserved-in-Bottom-1 g c =
    let A = g.A.Rising.algebra c.args.automaton.now in
    let W = g.A.Falling.downward c.args.automaton.now in
    let G = rules_of c.args.grammar.now.rules in
    let ks = keys c.args.risen.now.known in
    let f = c.notes.descent in
    let k = pair_at ks f.spot.pair in
    let ls = c.notes.lists in
    let ns = c.args.notes in
    let n = seen c.at-note.result in
    let p = reverse-last ns f.left (f.left - 1) n (let t = c.notes-test.true in omega arith) c.notes.invariant.within (sym (slice_get-at ns (f.left - 1) n n c.at-note.ensures).1) in
    let d = c.in-Some.down in
    let w = walk-next A W G ks ls k f.spot.down f.handed.items _ c.notes.marks.top c.next_term.new.marks.top f.here c.next_term.new.here d c.in_ok-down.field-0 (rw (p, c.in-Bottom.is) at c.notes.invariant.stands) c.in-Some.is (c.in_ok-down.ensures.next ls) in
    record {
      below = c.next_term.ensures.below ∙ c.notes.invariant.below;
      same = c.notes.invariant.same;
      more = c.notes.invariant.more;
      earlier = c.notes.invariant.earlier;
      stands = walk-bottom A W G ks ls k f.spot.down f.handed.items (reverse (take (f.left - 1) ns)) c.next_term.new.marks.top c.next_term.new.here d w;
      fewer = (let h = c.notes.invariant.fewer in omega arith);
      within = (let h = c.notes.invariant.within in omega arith);
    }

pub notes-preserved-in-Continue-branch-4 : goal.notes-preserved-in-Continue-branch-4
notes-preserved-in-Continue-branch-4 g c =
    let A = g.A.Rising.algebra c.args.automaton.now in
    let W = g.A.Falling.downward c.args.automaton.now in
    let G = rules_of c.args.grammar.now.rules in
    let ks = keys c.args.risen.now.known in
    let f = c.notes.descent in
    let k = pair_at ks f.spot.pair in
    let ls = c.notes.lists in
    let ns = c.args.notes in
    let n = seen c.at-note.result in
    let p = reverse-last ns f.left (f.left - 1) n (let t = c.notes-test.true in omega arith) c.notes.invariant.within (sym (slice_get-at ns (f.left - 1) n n c.at-note.ensures).1) in
    let d = c.in-Some.down in
    let w = walk-next A W G ks ls k f.spot.down f.handed.items _ c.notes.marks.top c.next_term.new.marks.top f.here c.next_term.new.here d c.in_ok-down.field-0 (rw (p, c.in-Param.is) at c.notes.invariant.stands) c.in-Some.is (c.in_ok-down.ensures.next ls) in
    let ended = c.in_ok-before-in-Param.ensures in
    let m = ended.more in
    let n = c.notes.invariant.more in
    let t = ended.tells w.s w.telling c.notes.invariant.earlier in
    let h = c.in_ok-before-in-Param.before in
    let new : List (Handed g.row.A-Down.Denot) = c.push.new.self.items in
    let pushed = c.in_ok-push-in-Param.ensures.items in
    let befores_are : befores new ≡ befores f.handed.items ++ h ∷ [] = ap (map (λ x. x.before)) pushed ∙ map-append (λ x. x.before) f.handed.items (record { before = h; down = d } ∷ []) in
    let downs_are : downs_handed new ≡ downs_handed f.handed.items ++ d ∷ [] = ap (map (λ x. x.down)) pushed ∙ map-append (λ x. x.down) f.handed.items (record { before = h; down = d } ∷ []) in
    let tells : Tells (extended ls m.0) h w.s = subst (λ x. Tells x h w.s) m.1 t.0 in
    let told : AreTold (extended ls m.0) (befores new) (w.done ++ w.s ∷ []) = subst (λ x. AreTold (extended ls m.0) x (w.done ++ w.s ∷ [])) (sym befores_are) (told-push (extended ls m.0) (befores f.handed.items) w.done h w.s (told-more ls m.0 (befores f.handed.items) w.done w.finished) tells) in
    record {
      same = c.notes.invariant.same;
      more = (n.0 ++ m.0, m.1 ∙ ap (λ x. extended x m.0) n.1 ∙ extended-twice c.args.lists.now n.0 m.0);
      earlier = t.1;
      stands = rw m.1 (walk-param A W G ks ls k f.spot.down f.handed.items m.0 (reverse (take (f.left - 1) ns)) c.next_term.new.marks.top c.next_term.new.here c.finish.new.self d new w told (ended.empty (extended ls m.0)) downs_are);
      below = c.next_term.ensures.below ∙ c.notes.invariant.below;
      fewer = (let h = c.notes.invariant.fewer in omega arith);
      within = (let h = c.notes.invariant.within in omega arith);
    }

pub enter_symbol-requires : goal.enter_symbol-requires
enter_symbol-requires g c =
    let A = g.A.Rising.algebra c.args.automaton.now in
    let W = g.A.Falling.downward c.args.automaton.now in
    let G = rules_of c.args.grammar.now.rules in
    let ks = keys c.args.risen.now.known in
    let f = c.notes.descent in
    let k = pair_at ks f.spot.pair in
    let ls = c.notes.lists in
    let small : nodes_in (value_at G k.0) < 2 ^ 63 = subst (λ s. nodes_in (value_at G (pair_at ks s.pair).0) < 2 ^ 63) (sym c.notes.invariant.same) c.requires.small in
    let ns = c.args.notes in
    let n = seen c.at-note.result in
    let p = reverse-last ns f.left (f.left - 1) n (let t = c.notes-test.true in omega arith) c.notes.invariant.within (sym (slice_get-at ns (f.left - 1) n n c.at-note.ensures).1) in
    let d = c.in-Some.down in
    let w = walk-next A W G ks ls k f.spot.down f.handed.items _ c.notes.marks.top c.next_term.new.marks.top f.here c.next_term.new.here d c.in_ok-down.field-0 (rw (p, c.in-Symbol.is) at c.notes.invariant.stands) c.in-Some.is (c.in_ok-down.ensures.next ls) in
    let room = walk-room-one A W G ks ls k f.spot.down f.handed.items _ _ c.next_term.new.here w small in
    record { nodes = room.0; hits = room.1 }

pub notes-preserved-in-Symbol-1 : goal.notes-preserved-in-Symbol-1
notes-preserved-in-Symbol-1 g c =
    let A = g.A.Rising.algebra c.args.automaton.now in
    let W = g.A.Falling.downward c.args.automaton.now in
    let G = rules_of c.args.grammar.now.rules in
    let ks = keys c.args.risen.now.known in
    let f = c.notes.descent in
    let k = pair_at ks f.spot.pair in
    let ls = c.notes.lists in
    let ns = c.args.notes in
    let n = seen c.at-note.result in
    let p = reverse-last ns f.left (f.left - 1) n (let t = c.notes-test.true in omega arith) c.notes.invariant.within (sym (slice_get-at ns (f.left - 1) n n c.at-note.ensures).1) in
    let d = c.in-Some.down in
    let w = walk-next A W G ks ls k f.spot.down f.handed.items _ c.notes.marks.top c.next_term.new.marks.top f.here c.next_term.new.here d c.in_ok-down.field-0 (rw (p, c.in-Symbol.is) at c.notes.invariant.stands) c.in-Some.is (c.in_ok-down.ensures.next ls) in
    let entered = c.in_ok-enter_symbol-in-Symbol.ensures in
    record {
      below = entered.below ∙ c.next_term.ensures.below ∙ c.notes.invariant.below;
      same = c.notes.invariant.same;
      more = c.notes.invariant.more;
      earlier = c.notes.invariant.earlier;
      stands = rw entered.marks (walk-symbol A W G ks ls k f.spot.down f.handed.items c.in-Symbol.symbol c.in-Symbol.kids.now c.in-Symbol.rest.now (reverse (take (f.left - 1) ns)) c.next_term.new.marks.top c.next_term.new.here c.enter_symbol.new.here d c.in_ok-fell-in-Symbol.fell w c.in_ok-fell-in-Symbol.ensures (entered.telling ls w.s (sym c.are_kept.ensures) w.telling));
      fewer = (let h = c.notes.invariant.fewer in omega arith);
      within = (let h = c.notes.invariant.within in omega arith);
    }

pub enter_call-requires : goal.enter_call-requires
enter_call-requires g c =
    let A = g.A.Rising.algebra c.args.automaton.now in
    let W = g.A.Falling.downward c.args.automaton.now in
    let G = rules_of c.args.grammar.now.rules in
    let ks = keys c.args.risen.now.known in
    let f = c.notes.descent in
    let k = pair_at ks f.spot.pair in
    let ls = c.notes.lists in
    let small : nodes_in (value_at G k.0) < 2 ^ 63 = subst (λ s. nodes_in (value_at G (pair_at ks s.pair).0) < 2 ^ 63) (sym c.notes.invariant.same) c.requires.small in
    let ns = c.args.notes in
    let n = seen c.at-note.result in
    let p = reverse-last ns f.left (f.left - 1) n (let t = c.notes-test.true in omega arith) c.notes.invariant.within (sym (slice_get-at ns (f.left - 1) n n c.at-note.ensures).1) in
    let d = c.in-Some.down in
    let w = walk-next A W G ks ls k f.spot.down f.handed.items _ c.notes.marks.top c.next_term.new.marks.top f.here c.next_term.new.here d c.in_ok-down.field-0 (rw (p, c.in-Call.is) at c.notes.invariant.stands) c.in-Some.is (c.in_ok-down.ensures.next ls) in
    let i = c.in-Call.pair in
    let o = outcome c.in-Some-find.handed.now c.in-Some-find.last in
    let n = c.notes.invariant.more in
    let h0 = All-contains (λ e. HasOutcome A W G ks c.args.lists.now e.0 e.1) c.args.known.now _ c.requires.known c.in-Some-find.ensures.found in
    let h : HasOutcome A W G ks ls (record { pair = i; down = d }) o = rw n.1 (outcome-more A W G ks c.args.lists.now n.0 (record { pair = i; down = d }) o h0) in
    record {
      room = walk-room-call A W G ks ls k f.spot.down f.handed.items i (reverse (take (f.left - 1) ns)) c.next_term.new.marks.top c.next_term.new.here d w o h small;
    }

pub notes-preserved : goal.notes-preserved
notes-preserved g c =
    let A = g.A.Rising.algebra c.args.automaton.now in
    let W = g.A.Falling.downward c.args.automaton.now in
    let G = rules_of c.args.grammar.now.rules in
    let ks = keys c.args.risen.now.known in
    let f = c.notes.descent in
    let k = pair_at ks f.spot.pair in
    let ls = c.notes.lists in
    let ns = c.args.notes in
    let n = seen c.at-note.result in
    let p = reverse-last ns f.left (f.left - 1) n (let t = c.notes-test.true in omega arith) c.notes.invariant.within (sym (slice_get-at ns (f.left - 1) n n c.at-note.ensures).1) in
    let d = c.in-Some.down in
    let w = walk-next A W G ks ls k f.spot.down f.handed.items _ c.notes.marks.top c.next_term.new.marks.top f.here c.next_term.new.here d c.in_ok-down.field-0 (rw (p, c.in-Call.is) at c.notes.invariant.stands) c.in-Some.is (c.in_ok-down.ensures.next ls) in
    let i = c.in-Call.pair in
    let o = outcome c.in-Some-find.handed.now c.in-Some-find.last in
    let n = c.notes.invariant.more in
    let h0 = All-contains (λ e. HasOutcome A W G ks c.args.lists.now e.0 e.1) c.args.known.now _ c.requires.known c.in-Some-find.ensures.found in
    let h : HasOutcome A W G ks ls (record { pair = i; down = d }) o = rw n.1 (outcome-more A W G ks c.args.lists.now n.0 (record { pair = i; down = d }) o h0) in
    let m = open-term ls d c.next_term.new.marks.top w.ms w.marked in
    let e = c.in_ok-enter_call-in-Some-find.ensures.entered ls w.s m.0 (cut A W (value_at G (pair_at ks i).0) (pair_at ks i).1 d) w.telling m.2 h.finished in
    let pair : IsPair G k = rw c.notes.invariant.same (All-get_or (IsPair G) ks c.args.descent.now.spot.pair (0, []) c.requires.there c.requires.run.pairs) in
    record {
      below = c.in_ok-enter_call-in-Some-find.ensures.below ∙ c.next_term.ensures.below ∙ c.notes.invariant.below;
      same = c.notes.invariant.same;
      more = n;
      earlier = c.notes.invariant.earlier;
      stands = walk-call A W G ks ls k f.spot.down f.handed.items c.rules-rules.ensures.grammar pair i (reverse (take (f.left - 1) ns)) c.next_term.new.marks.top c.enter_call.new.marks.top c.next_term.new.here c.enter_call.new.here d o w h e.0 e.1;
      fewer = (let h = c.notes.invariant.fewer in omega arith);
      within = (let h = c.notes.invariant.within in omega arith);
    }

pub returns-in-None-clause-waits : goal.returns-in-None-clause-waits
returns-in-None-clause-waits g c = λ spot e.
    let A = g.A.Rising.algebra c.args.automaton.now in
    let W = g.A.Falling.downward c.args.automaton.now in
    let G = rules_of c.args.grammar.now.rules in
    let ks = keys c.args.risen.now.known in
    let f = c.notes.descent in
    let k = pair_at ks f.spot.pair in
    let ls = c.notes.lists in
    let ns = c.args.notes in
    let n = seen c.at-note.result in
    let p = reverse-last ns f.left (f.left - 1) n (let t = c.notes-test.true in omega arith) c.notes.invariant.within (sym (slice_get-at ns (f.left - 1) n n c.at-note.ensures).1) in
    let d = c.in-Some.down in
    let w = walk-next A W G ks ls k f.spot.down f.handed.items _ c.notes.marks.top c.next_term.new.marks.top f.here c.next_term.new.here d c.in_ok-down.field-0 (rw (p, c.in-Call.is) at c.notes.invariant.stands) c.in-Some.is (c.in_ok-down.ensures.next ls) in
    let m = walk-meets A W G ks ls k f.spot.down f.handed.items c.in-Call.pair (reverse (take (f.left - 1) ns)) c.next_term.new.marks.top c.next_term.new.here d w in
    let asks : Asks A W G ks ls c.args.descent.now (record { pair = c.in-Call.pair; down = d }) (record { spot = f.spot; left = f.left - 1; here = c.next_term.new.here; handed = f.handed }) c.next_term.new.marks.top =
    record {
      waits = record {
        notes = ns;
        noted = subst (λ s. AreNotes A G ks (pair_at ks s.pair).1 (body_at G (pair_at ks s.pair).0) (reverse ns)) (sym c.notes.invariant.same) c.requires.noted;
        within = (let h = c.notes.invariant.within in omega arith);
        walks = w;
      };
      met = m.0;
      there = m.1;
      earlier = rw c.notes.invariant.same at m.2;
      fewer = (let t = c.notes-test.true in let h = c.notes.invariant.fewer in omega arith);
    }
    in
    subst (λ (x : Spot g.row.A-Down.Denot). Asks A W G ks ls c.args.descent.now x (record { spot = f.spot; left = f.left - 1; here = c.next_term.new.here; handed = f.handed }) c.next_term.new.marks.top) (same-waits _ spot e) asks

pub next_term-requires-2 : goal.next_term-requires-2
next_term-requires-2 g c =
    let A = g.A.Rising.algebra c.args.automaton.now in
    let W = g.A.Falling.downward c.args.automaton.now in
    let G = rules_of c.args.grammar.now.rules in
    let ks = keys c.args.risen.now.known in
    let f = c.notes.descent in
    let k = pair_at ks f.spot.pair in
    let ls = c.notes.lists in
    let small : nodes_in (value_at G k.0) < 2 ^ 63 = subst (λ s. nodes_in (value_at G (pair_at ks s.pair).0) < 2 ^ 63) (sym c.notes.invariant.same) c.requires.small in
    walk-room A W G ks ls k f.spot.down f.handed.items (reverse (take f.left c.args.notes)) c.notes.marks.top f.here c.notes.invariant.stands small

pub returns-clause-more : goal.returns-clause-more
returns-clause-more g c =
    let m = c.in_ok-last.ensures.more in
    let n = c.notes.invariant.more in
    (n.0 ++ m.0, m.1 ∙ ap (λ x. extended x m.0) n.1 ∙ extended-twice c.args.lists.now n.0 m.0)

pub returns-clause-earlier : goal.returns-clause-earlier
returns-clause-earlier g c =
    let A = g.A.Rising.algebra c.args.automaton.now in
    let W = g.A.Falling.downward c.args.automaton.now in
    let G = rules_of c.args.grammar.now.rules in
    let ks = keys c.args.risen.now.known in
    let f = c.notes.descent in
    let k = pair_at ks f.spot.pair in
    let ls = c.notes.lists in
    let z : f.left ≡ 0 = (let t = c.notes-test.false in omega arith) in
    let w : Walks A W G ks ls k f.spot.down [] c.notes.marks.top f.here f.handed.items = rw z at c.notes.invariant.stands in
    let i = (c.in_ok-next_term.ensures.next ls w.s w.ms w.telling w.marked).telling in
    (c.in_ok-last.ensures.tells (absorbed w.s w.ms) i c.notes.invariant.earlier).1

pub returns-clause-done : goal.returns-clause-done
returns-clause-done g c = λ end e.
    let A = g.A.Rising.algebra c.args.automaton.now in
    let W = g.A.Falling.downward c.args.automaton.now in
    let G = rules_of c.args.grammar.now.rules in
    let ks = keys c.args.risen.now.known in
    let f = c.notes.descent in
    let k = pair_at ks f.spot.pair in
    let ls = c.notes.lists in
    let z : f.left ≡ 0 = (let t = c.notes-test.false in omega arith) in
    let w : Walks A W G ks ls k f.spot.down [] c.notes.marks.top f.here f.handed.items = rw z at c.notes.invariant.stands in
    let i = (c.in_ok-next_term.ensures.next ls w.s w.ms w.telling w.marked).telling in
    let m = c.in_ok-last.ensures.more in
    let t = c.in_ok-last.ensures.tells (absorbed w.s w.ms) i c.notes.invariant.earlier in
    let ls' = c.finish-2.new.lists in
    let last = c.in_ok-last.last in
    let before : AreTold ls' (befores f.handed.items) w.done = subst (λ x. AreTold x (befores f.handed.items) w.done) (sym m.1) (told-more ls m.0 (befores f.handed.items) w.done w.finished) in
    let told = told-push ls' (befores f.handed.items) w.done last (absorbed w.s w.ms) before t.0 in
    let ends = walk-end A W G ks ls k f.spot.down f.handed.items ls' c.notes.marks.top f.here (outcome f.handed.items last) w told refl in
    let h : HasOutcome A W G ks ls' f.spot (outcome f.handed.items last) = record { there = rw c.notes.invariant.same c.requires.there; finished = ends.0; hands = ends.1 } in
    subst (λ x. HasOutcome A W G ks ls' f.spot (outcome f.handed.items x)) (same-done last end e) h
