use Rattle.std.proofs.Common.{◌≡◌, ◌-◌, ◌<◌, ◌≤◌, ◌∙◌, ◌∷◌, [], refl, sym, ap, subst, arith, length, reverse, take, slice_get, Some}
use Rattle.std.proofs.lemmas.List.{nil_from_length}
use Rattle.slt_grammar.specs.Keyed.{rules_of}
use Rattle.slt_grammar.specs.Grammars.{body_at, rank_at}
use Rattle.rule_runs.specs.Descents.{triple_at}
use Rattle.rule_runs.specs.Notes.{AreNotes}
use Rattle.rule_runs.specs.NoteLists.{seen}
use Rattle.rule_runs.specs.Risen.{keys, pair_at}
use Rattle.rule_runs.specs.declared.spots.Spot.{Spot}
use Rattle.rule_runs.proofs.Lists.{no_more, all-get, slice_get-map, reverse-push}
use Rattle.rule_runs.proofs.NoteLemmas.{same-reversed}
use Rattle.bulk_rewrite.specs.Frames.{triples, HasHanded, Walks, Asks}
use Rattle.bulk_rewrite.proofs.Steps.{step-open, step-bottom, step-param, step-symbol, step-meets, step-lost, step-call, step-waits}
use Rattle.bulk_rewrite.proofs.Walking.{walk-end}
use Rattle.bulk_rewrite.proofs.frame.advance.Goals as goal

-- the spot that is answered is one
same-some : {X : Type 0} (x y : X) → Some x ≡ Some y → x ≡ y
same-some x y e = cc

pub notes-init : goal.notes-init
notes-init g c =
    let A = g.A.Rising.algebra c.args.automaton.now in
    let W = g.A.Falling.downward c.args.automaton.now in
    let R = g.A.Rewriter.rewriting c.args.automaton.now in
    let G = rules_of c.args.grammar.now.rules in
    let ks = keys c.args.risen.now.known in
    let ts = triples ks c.args.known.now in
    let f = c.args.frame.now in
    let k = pair_at ks f.spot.pair in
    let st = c.requires.stands in
    let same = same-reversed A G ks c.requires.run.distinct k.1 (body_at G k.0) st.notes c.args.notes st.noted c.requires.noted in
    record {
      same = refl;
      here = st.here;
      stands = subst (λ xs. Walks A W G R ks ts k f.spot.down (reverse (take f.left xs)) (reverse f.opened.items) f.body f.handed.items) same st.walks;
      fewer = omega arith;
      within = subst (λ xs. f.left ≤ length xs) same st.within;
    }

pub unreachable-requires : goal.unreachable-requires
unreachable-requires g c =
    let A = g.A.Rising.algebra c.args.automaton.now in
    let W = g.A.Falling.downward c.args.automaton.now in
    let R = g.A.Rewriter.rewriting c.args.automaton.now in
    let G = rules_of c.args.grammar.now.rules in
    let ks = keys c.args.risen.now.known in
    let ts = triples ks c.args.known.now in
    let f = c.notes.frame in
    let ns = c.args.notes in
    let i = c.notes.invariant in
    let some : 0 < f.left = (let t = c.notes-test.true in omega arith) in
    let z = rw (no_more c.pop.result c.in_default.not-Some) at c.pop.ensures.cases in
    step-open A W G R ks ts f ns i.stands i.within some (seen c.at-note.result) c.at-note.ensures (nil_from_length f.opened.items (omega (arith, z.0, f.opened.ok.0)))

pub notes-preserved-in-Bottom-1 : goal.notes-preserved-in-Bottom-1
notes-preserved-in-Bottom-1 g c =
    let A = g.A.Rising.algebra c.args.automaton.now in
    let W = g.A.Falling.downward c.args.automaton.now in
    let R = g.A.Rewriter.rewriting c.args.automaton.now in
    let G = rules_of c.args.grammar.now.rules in
    let ks = keys c.args.risen.now.known in
    let ts = triples ks c.args.known.now in
    let f = c.notes.frame in
    let ns = c.args.notes in
    let i = c.notes.invariant in
    let some : 0 < f.left = (let t = c.notes-test.true in omega arith) in
    record {
      same = i.same;
      here = i.here;
      stands = step-bottom A W G R ks ts f ns i.stands i.within some (seen c.at-note.result) c.at-note.ensures c.pop.new.self.items c.in-Some.down c.in-Some.ensures.items (ap seen c.in-Bottom.is) c.is_lost-lost.result c.keep.new.body c.is_lost-lost.ensures c.in_ok-keep-in-Bottom.ensures;
      fewer = (let h = i.fewer in omega arith);
      within = (let h = i.within in omega arith);
    }

pub notes-preserved-in-Continue-branch-3 : goal.notes-preserved-in-Continue-branch-3
notes-preserved-in-Continue-branch-3 g c =
    let A = g.A.Rising.algebra c.args.automaton.now in
    let W = g.A.Falling.downward c.args.automaton.now in
    let R = g.A.Rewriter.rewriting c.args.automaton.now in
    let G = rules_of c.args.grammar.now.rules in
    let ks = keys c.args.risen.now.known in
    let ts = triples ks c.args.known.now in
    let f = c.notes.frame in
    let ns = c.args.notes in
    let i = c.notes.invariant in
    let some : 0 < f.left = (let t = c.notes-test.true in omega arith) in
    record {
      same = i.same;
      here = i.here;
      stands = step-param A W G R ks ts f ns i.stands i.within some (seen c.at-note.result) c.at-note.ensures c.pop.new.self.items c.in-Some.down c.in-Some.ensures.items (ap seen c.in-Param.is) c.is_lost-lost.result c.keep-in-Param.new.body c.push.new.self.items c.is_lost-lost.ensures c.in_ok-keep-in-Param.ensures c.in_ok-push-in-Param.ensures.items;
      fewer = (let h = i.fewer in omega arith);
      within = (let h = i.within in omega arith);
    }

pub notes-preserved-in-Symbol-1 : goal.notes-preserved-in-Symbol-1
notes-preserved-in-Symbol-1 g c =
    let A = g.A.Rising.algebra c.args.automaton.now in
    let W = g.A.Falling.downward c.args.automaton.now in
    let R = g.A.Rewriter.rewriting c.args.automaton.now in
    let G = rules_of c.args.grammar.now.rules in
    let ks = keys c.args.risen.now.known in
    let ts = triples ks c.args.known.now in
    let f = c.notes.frame in
    let ns = c.args.notes in
    let i = c.notes.invariant in
    let some : 0 < f.left = (let t = c.notes-test.true in omega arith) in
    let opened : reverse c.push-in-Symbol-2.new.self.items ≡ c.in_ok-fell-in-Symbol.fell.left ∷ c.in_ok-fell-in-Symbol.fell.right ∷ reverse c.pop.new.self.items =
    ap reverse c.in_ok-push-in-Symbol-2.ensures.items ∙ reverse-push c.push-in-Symbol.new.self.items c.in_ok-fell-in-Symbol.fell.left ∙ ap (λ xs. c.in_ok-fell-in-Symbol.fell.left ∷ xs) (ap reverse c.in_ok-push-in-Symbol.ensures.items ∙ reverse-push c.pop.new.self.items c.in_ok-fell-in-Symbol.fell.right) in
    record {
      same = i.same;
      here = i.here;
      stands = step-symbol A W G R ks ts f ns i.stands i.within some (seen c.at-note.result) c.at-note.ensures c.pop.new.self.items c.in-Some.down c.in-Some.ensures.items c.in-Symbol.symbol c.in-Symbol.kids.now c.in-Symbol.rest.now (ap seen c.in-Symbol.is) c.in_ok-fell-in-Symbol.fell c.becomes.result c.keep_symbol.new.body c.push-in-Symbol-2.new.self.items c.in_ok-fell-in-Symbol.ensures c.becomes.ensures c.in_ok-keep_symbol-in-Symbol.ensures opened;
      fewer = (let h = i.fewer in omega arith);
      within = (let h = i.within in omega arith);
    }

pub notes-preserved-then-lost : goal.notes-preserved-then-lost
notes-preserved-then-lost g c =
    let A = g.A.Rising.algebra c.args.automaton.now in
    let W = g.A.Falling.downward c.args.automaton.now in
    let R = g.A.Rewriter.rewriting c.args.automaton.now in
    let G = rules_of c.args.grammar.now.rules in
    let ks = keys c.args.risen.now.known in
    let ts = triples ks c.args.known.now in
    let f = c.notes.frame in
    let ns = c.args.notes in
    let i = c.notes.invariant in
    let some : 0 < f.left = (let t = c.notes-test.true in omega arith) in
    record {
      same = i.same;
      here = i.here;
      stands = step-lost A W G R ks ts f ns i.stands i.within some (seen c.at-note.result) c.at-note.ensures c.pop.new.self.items c.in-Some.down c.in-Some.ensures.items c.rules-rules.ensures.grammar (g.met.A.Rewriter.lawful c.args.automaton.now) c.in-Call.pair (ap seen c.in-Call.is) c.rank-rank.result c.open_lost.new.opened.items (sym c.is_lost-lost.ensures ∙ c.if-lost.true) (c.rank-rank.ensures ∙ ap (rank_at G) c.rule_at.ensures) c.in_ok-open_lost-in-Call.ensures;
      fewer = (let h = i.fewer in omega arith);
      within = (let h = i.within in omega arith);
    }

pub notes-preserved : goal.notes-preserved
notes-preserved g c =
    let A = g.A.Rising.algebra c.args.automaton.now in
    let W = g.A.Falling.downward c.args.automaton.now in
    let R = g.A.Rewriter.rewriting c.args.automaton.now in
    let G = rules_of c.args.grammar.now.rules in
    let ks = keys c.args.risen.now.known in
    let ts = triples ks c.args.known.now in
    let f = c.notes.frame in
    let ns = c.args.notes in
    let i = c.notes.invariant in
    let some : 0 < f.left = (let t = c.notes-test.true in omega arith) in
    let spot : Spot g.row.A-Down.Denot = record { pair = c.in-Call.pair; down = c.in-Some.down } in
    let found = c.in-Some-find.ensures.found in
    let h : HasHanded A W G R ks spot c.in-Some-find.handed.now = all-get (λ e. HasHanded A W G R ks e.0 e.1) c.args.known.now c.in-Some-find.place (spot, c.in-Some-find.handed.now) c.requires.known found in
    let at : slice_get ts c.in-Some-find.place ≡ Some (triple_at ks spot) = slice_get-map (λ e. triple_at ks e.0) c.args.known.now c.in-Some-find.place (spot, c.in-Some-find.handed.now) found in
    let en = c.in_ok-enter_call-in-Some-find.ensures in
    record {
      same = c.enter_call.ensures.spot ∙ i.same;
      here = rw c.enter_call.ensures.spot i.here;
      stands = rw (c.enter_call.ensures.spot, c.enter_call.ensures.left, c.enter_call.ensures.handed) (step-call A W G R ks ts f ns i.stands i.within some (seen c.at-note.result) c.at-note.ensures c.pop.new.self.items c.in-Some.down c.in-Some.ensures.items c.rules-rules.ensures.grammar c.in-Call.pair c.in-Some-find.place (ap seen c.in-Call.is) c.in-Some-find.handed.now c.enter_call.new.frame.opened.items c.enter_call.new.frame.body h at en.body en.opened);
      fewer = (let h = i.fewer in let l = c.enter_call.ensures.left in omega arith);
      within = (let h = i.within in let l = c.enter_call.ensures.left in omega arith);
    }

pub rule_at-requires : goal.rule_at-requires
rule_at-requires g c =
    let A = g.A.Rising.algebra c.args.automaton.now in
    let W = g.A.Falling.downward c.args.automaton.now in
    let R = g.A.Rewriter.rewriting c.args.automaton.now in
    let G = rules_of c.args.grammar.now.rules in
    let ks = keys c.args.risen.now.known in
    let ts = triples ks c.args.known.now in
    let f = c.notes.frame in
    let ns = c.args.notes in
    let i = c.notes.invariant in
    let some : 0 < f.left = (let t = c.notes-test.true in omega arith) in
    (step-meets A W G R ks ts f ns i.stands i.within some (seen c.at-note.result) c.at-note.ensures c.pop.new.self.items c.in-Some.down c.in-Some.ensures.items c.in-Call.pair (ap seen c.in-Call.is)).1

pub returns-in-None-clause-waits : goal.returns-in-None-clause-waits
returns-in-None-clause-waits g c = λ spot e.
    let A = g.A.Rising.algebra c.args.automaton.now in
    let W = g.A.Falling.downward c.args.automaton.now in
    let R = g.A.Rewriter.rewriting c.args.automaton.now in
    let G = rules_of c.args.grammar.now.rules in
    let ks = keys c.args.risen.now.known in
    let ts = triples ks c.args.known.now in
    let f = c.notes.frame in
    let ns = c.args.notes in
    let i = c.notes.invariant in
    let some : 0 < f.left = (let t = c.notes-test.true in omega arith) in
    let m = step-meets A W G R ks ts f ns i.stands i.within some (seen c.at-note.result) c.at-note.ensures c.pop.new.self.items c.in-Some.down c.in-Some.ensures.items c.in-Call.pair (ap seen c.in-Call.is) in
    let w = step-waits A W G R ks ts f ns i.stands i.within some (seen c.at-note.result) c.at-note.ensures c.pop.new.self.items c.in-Some.down c.in-Some.ensures.items c.in-Call.pair (ap seen c.in-Call.is) in
    let asks : Asks A W G R ks ts c.args.frame.now (record { pair = c.in-Call.pair; down = c.in-Some.down }) (record { spot = f.spot; left = f.left - 1; opened = c.pop.new.self; body = f.body; handed = f.handed }) = record {
      waits = record {
        notes = ns;
        noted = subst (λ s. AreNotes A G ks (pair_at ks s.pair).1 (body_at G (pair_at ks s.pair).0) (reverse ns)) (sym i.same) c.requires.noted;
        within = (let h = i.within in omega arith);
        here = i.here;
        walks = w;
      };
      met = m.0;
      there = m.1;
      here = sym c.is_lost-lost.ensures ∙ c.if-lost.false;
      earlier = rw i.same at m.2;
      fewer = (let h = i.fewer in omega arith);
    } in
    subst (λ (x : Spot g.row.A-Down.Denot). Asks A W G R ks ts c.args.frame.now x (record { spot = f.spot; left = f.left - 1; opened = c.pop.new.self; body = f.body; handed = f.handed })) (same-some _ spot e) asks

pub returns-clause-hands : goal.returns-clause-hands
returns-clause-hands g c = λ none.
    let A = g.A.Rising.algebra c.args.automaton.now in
    let W = g.A.Falling.downward c.args.automaton.now in
    let R = g.A.Rewriter.rewriting c.args.automaton.now in
    let G = rules_of c.args.grammar.now.rules in
    let ks = keys c.args.risen.now.known in
    let ts = triples ks c.args.known.now in
    let f = c.notes.frame in
    let z : f.left ≡ 0 = (let t = c.notes-test.false in omega arith) in
    let w : Walks A W G R ks ts (pair_at ks f.spot.pair) f.spot.down [] (reverse f.opened.items) f.body f.handed.items = rw z at c.notes.invariant.stands in
    record { there = rw c.notes.invariant.same c.requires.there; here = c.notes.invariant.here; are = (walk-end A W G R ks ts (pair_at ks f.spot.pair) f.spot.down (reverse f.opened.items) f.body f.handed.items w).1 }

pub returns-clause-named : goal.returns-clause-named
returns-clause-named g c = λ none.
    let A = g.A.Rising.algebra c.args.automaton.now in
    let W = g.A.Falling.downward c.args.automaton.now in
    let R = g.A.Rewriter.rewriting c.args.automaton.now in
    let G = rules_of c.args.grammar.now.rules in
    let ks = keys c.args.risen.now.known in
    let ts = triples ks c.args.known.now in
    let f = c.notes.frame in
    let z : f.left ≡ 0 = (let t = c.notes-test.false in omega arith) in
    let w : Walks A W G R ks ts (pair_at ks f.spot.pair) f.spot.down [] (reverse f.opened.items) f.body f.handed.items = rw z at c.notes.invariant.stands in
    (walk-end A W G R ks ts (pair_at ks f.spot.pair) f.spot.down (reverse f.opened.items) f.body f.handed.items w).0
