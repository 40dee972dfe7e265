use Rattle.rule_runs.proofs.Closing.{known-end, closing-begin, closing-return}
use Rattle.std.proofs.lemmas.List.Elements.{All-append, All-nil}
use Rattle.std.proofs.Common.{◌∙◌, ◌≡◌, ◌≢◌, ◌-◌, ◌+◌, ◌*◌, ◌++◌, ◌∷◌, List, IsTrue, Some, ap, sym, arith, [], reverse, length, get_or, slice_get, sum_by}
use Rattle.slt_grammar.specs.Keyed.{rules_of}
use Rattle.rule_runs.specs.Reached.{RuleStates, ReadsOnce}
use Rattle.rule_runs.specs.Entries.{key_of}
use Rattle.rule_runs.specs.Risen.{IsPair, state_at, keys, AreKnown}
use Rattle.rule_runs.specs.Frames.{AreFrames, AreNoting, cost, keys_of}
use Rattle.rule_runs.proofs.Lists.{reverse-push, empty_reverse, all-one, all-unmap, distinct-apart}
use Rattle.rule_runs.proofs.Once.{frames-stands, reads-more, reads-start, frames-begin, stacked-begin, stacked-return, keys-return, top-state, run-whole, cost-begin}
use Rattle.std.proofs.lemmas.Result.{IfOk-weaker, on_ok_weaker}
use Rattle.std.proofs.lemmas.List.{length-map, map-append}
use Rattle.std.proofs.lemmas.List.Sums.{sum_by-cons}
use Rattle.rule_arena.proofs.PreorderLemmas.{slice_get-right}
use Rattle.slt_grammar.specs.Grammars.{body_at, value}
use Rattle.slt_grammar.specs.declared.rules.Rule.{Rule}
use Rattle.slt_grammar.specs.Terms.{up}
use Rattle.rule_runs.specs.declared.frame.Frame.{Frame}
use Rattle.rule_runs.specs.declared.memo.Pair.{Pair}
use Rattle.rule_runs.proofs.Keeping.{keeps-none, keeps-return}
use Rattle.rule_runs.proofs.Noting.{notes-end, noting-more, noted-call}
use Rattle.rule_runs.proofs.rising.run_on.Goals as goal

-- all of a body is left where it is begun
begun : {S : Type 0} (G : List Rule) (f : Frame S) (pair : Pair S) → f.left ≡ length (body_at G pair.rule) → f.pair ≡ pair → f.left ≡ length (body_at G f.pair.rule)
begun G f pair left is = left ∙ ap (λ p. length (body_at G p.rule)) (sym is)

pub bodies-init : goal.bodies-init
bodies-init g c =
    let A = g.A.Rising.algebra c.args.automaton.now in
    let G = rules_of c.args.grammar.now.rules in
    let f = c.args.frame.now in
    let key = c.requires.start.1 in
    let read = 2 * length (body_at G f.pair.rule) in
    record {
      right = rw c.requires.known (All-nil (λ e. e.1 ≡ state_at A G e.0));
      pairs = rw c.requires.known (All-nil (IsPair G));
      frames = rw c.requires.frames c.requires.start;
      stacked = rw c.requires.frames c.requires.stacked;
      reads = rw (c.requires.known, c.requires.frames, key) (reads-start A G (read + (c.args.steps.now - c.args.steps.now)) c.rules-rules.ensures.grammar (rw (ap (λ k. k.0) key) (omega arith)));
      closing = rw (c.requires.known, c.requires.frames) (record { now = known-end A G [] (key_of f.pair) f.left (let l = c.requires.left in omega (arith, l)); outer = tt; all = All-nil (λ k. AreKnown A G [] k 0) });
      counted = omega arith;
      kept = rw (c.requires.known, c.requires.bodies) (keeps-none A G c.args.noted);
      noted = λ t. rw c.requires.notes (notes-end A G _ _ _ f.left c.requires.left);
      outer = λ t. rw c.requires.frames tt;
    }

pub advance-requires-clause-stands : goal.advance-requires-clause-stands
advance-requires-clause-stands g c =
    frames-stands (g.A.Rising.algebra c.args.automaton.now) (rules_of c.args.grammar.now.rules) c.bodies.frame (reverse c.bodies.frames.items) c.bodies.invariant.frames

pub advance-requires-clause-states : goal.advance-requires-clause-states
advance-requires-clause-states g c = (_, c.bodies.invariant.stacked.states)

pub advance-requires-clause-labels : goal.advance-requires-clause-labels
advance-requires-clause-labels g c = (_, c.bodies.invariant.stacked.labels)

pub wait_for-requires : goal.wait_for-requires
wait_for-requires g c = (c.in_ok-pair.ensures.waits c.in-Waits.pair c.in-Waits.is).there

pub returns-in_err-wait_for-in-Waits-clause-steps : goal.returns-in_err-wait_for-in-Waits-clause-steps
returns-in_err-wait_for-in-Waits-clause-steps g c =
    let A = g.A.Rising.algebra c.args.automaton.now in
    let G = rules_of c.args.grammar.now.rules in
    let read = 2 * length (body_at G c.args.frame.now.pair.rule) in
    let w = c.in_ok-pair.ensures.waits c.in-Waits.pair c.in-Waits.is in
    let n = c.in_ok-pair.ensures.new c.in-Waits.pair c.in-Waits.is in
    let k = c.wait_for.ensures.steps in
    let o = c.bodies.invariant.counted in
    (_, reads-more A G c.bodies.known c.bodies.frame c.advance.new.frame (reverse c.bodies.frames.items) c.in-Waits.pair (read + (c.bodies.steps - c.args.steps.now)) (read + (c.wait_for.new.steps - c.args.steps.now)) c.bodies.invariant.reads c.bodies.invariant.frames w n (omega arith))

pub bodies-smaller-in-Continue-branch-3 : goal.bodies-smaller-in-Continue-branch-3
bodies-smaller-in-Continue-branch-3 g c =
    let G = rules_of c.args.grammar.now.rules in
    let w = c.in_ok-pair.ensures.waits c.in-Waits.pair c.in-Waits.is in
    let e = ap reverse c.in_ok-wait_for-in-Waits.ensures.aside ∙ reverse-push c.bodies.frames.items c.advance.new.frame in
    let k = cost-begin G c.bodies.frame c.advance.new.frame c.wait_for.new.frame (reverse c.bodies.frames.items) c.in-Waits.pair.rule w.there.there w.earlier c.in_ok-pair.ensures.same w.fewer (ap (λ p. p.rule) c.in_ok-wait_for-in-Waits.ensures.pair) c.in_ok-wait_for-in-Waits.ensures.cost in
    rw e k

pub bodies-preserved-in-Continue-branch-3 : goal.bodies-preserved-in-Continue-branch-3
bodies-preserved-in-Continue-branch-3 g c =
    let A = g.A.Rising.algebra c.args.automaton.now in
    let G = rules_of c.args.grammar.now.rules in
    let read = 2 * length (body_at G c.args.frame.now.pair.rule) in
    let w = c.in_ok-pair.ensures.waits c.in-Waits.pair c.in-Waits.is in
    let n = c.in_ok-pair.ensures.new c.in-Waits.pair c.in-Waits.is in
    let k = c.wait_for.ensures.steps in
    let o = c.bodies.invariant.counted in
    let r = reads-more A G c.bodies.known c.bodies.frame c.advance.new.frame (reverse c.bodies.frames.items) c.in-Waits.pair (read + (c.bodies.steps - c.args.steps.now)) (read + (c.wait_for.new.steps - c.args.steps.now)) c.bodies.invariant.reads c.bodies.invariant.frames w n (omega arith) in
    let f = frames-begin A G c.bodies.frame c.advance.new.frame c.wait_for.new.frame (reverse c.bodies.frames.items) c.in-Waits.pair c.bodies.invariant.frames w c.in_ok-pair.ensures.same c.in_ok-wait_for-in-Waits.ensures.pair (c.in_ok-wait_for-in-Waits.ensures.stands A) in
    let e = ap reverse c.in_ok-wait_for-in-Waits.ensures.aside ∙ reverse-push c.bodies.frames.items c.advance.new.frame in
    let stacked = stacked-begin A G c.bodies.frame c.advance.new.frame c.wait_for.new.frame (reverse c.bodies.frames.items) _ _ _ _ _ c.bodies.invariant.stacked
    (c.in_ok-pair.ensures.states c.in-Waits.pair c.in-Waits.is) (c.in_ok-pair.ensures.labels c.in-Waits.pair c.in-Waits.is) (c.in_ok-wait_for-in-Waits.ensures.none A) c.in_ok-wait_for-in-Waits.ensures.labels in
    record {
      right = c.bodies.invariant.right;
      pairs = c.bodies.invariant.pairs;
      frames = rw e f;
      stacked = rw e stacked;
      reads = rw (e, c.in_ok-wait_for-in-Waits.ensures.pair, c.in_ok-pair.ensures.same) r;
      closing = rw e (closing-begin A G c.bodies.known c.bodies.frame c.advance.new.frame c.wait_for.new.frame (reverse c.bodies.frames.items) c.in-Waits.pair c.bodies.invariant.closing c.in_ok-pair.ensures.same (c.in_ok-pair.ensures.awaiting c.in-Waits.pair c.in-Waits.is) c.in_ok-wait_for-in-Waits.ensures.pair c.in_ok-wait_for-in-Waits.ensures.cost);
      counted = (let h = c.wait_for.ensures.counted in omega arith);
      kept = c.bodies.invariant.kept;
      noted = λ t. rw c.in_ok-wait_for-in-Waits.ensures.top (notes-end A G _ _ _ c.wait_for.new.frame.left (begun G c.wait_for.new.frame _ c.in_ok-wait_for-in-Waits.ensures.cost c.in_ok-wait_for-in-Waits.ensures.pair));
      outer = λ t. rw (e, c.in_ok-wait_for-in-Waits.ensures.pair, c.in_ok-wait_for-in-Waits.ensures.below, c.in_ok-pair.ensures.below) (c.in_ok-pair.ensures.behind c.in-Waits.pair c.in-Waits.is t, rw c.in_ok-pair.ensures.same (c.bodies.invariant.outer t));
    }

pub advance-requires-clause-closed : goal.advance-requires-clause-closed
advance-requires-clause-closed g c = c.bodies.invariant.closing.now

pub note_top-requires : goal.note_top-requires
note_top-requires g c =
    let r = c.bodies.invariant.reads in
    rw c.in_ok-pair.ensures.same (all-unmap (λ e. e.0) (λ k. k ≢ key_of c.bodies.frame.pair) c.bodies.known (distinct-apart (keys c.bodies.known) (key_of c.bodies.frame.pair) _ r.distinct))

pub hand_back-requires : goal.hand_back-requires
hand_back-requires g c =
    let r = c.bodies.invariant.reads in
    rw c.in_ok-pair.ensures.same (all-unmap (λ e. e.0) (λ k. k ≢ key_of c.bodies.frame.pair) c.bodies.known (distinct-apart (keys c.bodies.known) (key_of c.bodies.frame.pair) _ r.distinct))

pub returns-in-None-clause-top : goal.returns-in-None-clause-top
returns-in-None-clause-top g c =
    let A = g.A.Rising.algebra c.args.automaton.now in
    let G = rules_of c.args.grammar.now.rules in
    let d = c.in_ok-pair.ensures.done c.in-Done.state c.in-Done.is in
    let n : length c.bodies.frames.items ≡ 0 = omega (arith, c.in-None.ensures.cases.0, c.bodies.frames.ok.0) in
    let f : AreFrames A G c.bodies.frame [] = rw (empty_reverse c.bodies.frames.items n) at c.bodies.invariant.frames in
    let whole : c.in-Done.state ≡ up A (value G) [] = top-state A G c.rules-rules.ensures.grammar c.bodies.frame c.in-Done.state f d in
    IfOk-weaker c.note_top.result (λ top. top ≡ c.in-Done.state) (λ top. top ≡ up A (value G) []) (λ top same. same ∙ whole) c.note_top.ensures.same

pub returns-in-None-clause-run : goal.returns-in-None-clause-run
returns-in-None-clause-run g c =
    let A = g.A.Rising.algebra c.args.automaton.now in
    let G = rules_of c.args.grammar.now.rules in
    let read = 2 * length (body_at G c.args.frame.now.pair.rule) in
    let d = c.in_ok-pair.ensures.done c.in-Done.state c.in-Done.is in
    let z : length c.bodies.frames.items ≡ 0 = omega (arith, c.in-None.ensures.cases.0, c.bodies.frames.ok.0) in
    let f : AreFrames A G c.bodies.frame [] = rw (empty_reverse c.bodies.frames.items z) at c.bodies.invariant.frames in
    let r : ReadsOnce A G (keys c.bodies.known ++ (key_of c.bodies.frame.pair ∷ [])) (read + (c.bodies.steps - c.args.steps.now)) = rw (empty_reverse c.bodies.frames.items z) at c.bodies.invariant.reads in
    let run = run-whole A G c.bodies.known c.bodies.frame c.in-Done.state (read + (c.bodies.steps - c.args.steps.now)) c.bodies.invariant.right c.bodies.invariant.pairs f r d (rw (empty_reverse c.bodies.frames.items z) at c.bodies.invariant.closing) (c.in_ok-pair.ensures.closed c.in-Done.state c.in-Done.is) in
    on_ok_weaker c.note_top.result (λ (known : c.note_top.new.known ≡ c.bodies.known ++ (key_of c.advance.new.frame.pair, c.in-Done.state) ∷ []). rw (known ∙ ap (λ p. c.bodies.known ++ (key_of p, c.in-Done.state) ∷ []) c.in_ok-pair.ensures.same) run) c.note_top.ensures.known

pub returns-in-None-clause-noted : goal.returns-in-None-clause-noted
returns-in-None-clause-noted g c =
    let A = g.A.Rising.algebra c.args.automaton.now in
    let G = rules_of c.args.grammar.now.rules in
    let k = key_of c.bodies.frame.pair in
    let kept = keeps-return A G c.args.noted (keys c.bodies.known) k c.bodies.bodies c.keep.new.self c.advance.new.notes.top c.bodies.invariant.kept (c.in_ok-pair.ensures.noted c.in-Done.state c.in-Done.is) c.in_ok-keep-in-Done.ensures.kept c.in_ok-keep-in-Done.ensures.stays in
    on_ok_weaker c.note_top.result
    (λ (known : c.note_top.new.known ≡ c.bodies.known ++ (key_of c.advance.new.frame.pair, c.in-Done.state) ∷ []). rw (ap keys (known ∙ ap (λ p. c.bodies.known ++ (key_of p, c.in-Done.state) ∷ []) c.in_ok-pair.ensures.same) ∙ map-append (λ e. e.0) c.bodies.known ((k, c.in-Done.state) ∷ [])) kept.are) c.note_top.ensures.known

pub bodies-preserved : goal.bodies-preserved
bodies-preserved g c =
    let A = g.A.Rising.algebra c.args.automaton.now in
    let G = rules_of c.args.grammar.now.rules in
    let read = 2 * length (body_at G c.args.frame.now.pair.rule) in
    let h = c.in_ok-hand_back-in-Some.ensures in
    let entry : RuleStates g.row.A-State.Denot × g.row.A-State.Denot = (key_of c.bodies.frame.pair, c.in-Done.state) in
    let n : c.hand_back.new.known ≡ c.bodies.known ++ entry ∷ [] = h.known ∙ ap (λ p. c.bodies.known ++ (key_of p, c.in-Done.state) ∷ []) c.in_ok-pair.ensures.same in
    let d = c.in_ok-pair.ensures.done c.in-Done.state c.in-Done.is in
    let e = ap reverse c.in-Some.ensures.items ∙ reverse-push c.pop.new.self.items c.in-Some.below in
    let f : AreFrames A G c.bodies.frame (c.in-Some.below ∷ reverse c.pop.new.self.items) = rw e at c.bodies.invariant.frames in
    let k = key_of c.bodies.frame.pair in
    let ks = keys c.bodies.known in
    let top = c.advance.new.notes.top in
    let mss = c.bodies.notes.below in
    let kn : keys c.hand_back.new.known ≡ ks ++ k ∷ [] = ap keys n ∙ map-append (λ e. e.0) c.bodies.known (entry ∷ []) in
    let ended = c.in_ok-pair.ensures.noted c.in-Done.state c.in-Done.is in
    let awaited : IsTrue c.args.noted → AreNoting A G ks k (c.in-Some.below ∷ reverse c.pop.new.self.items) mss = rw e at c.bodies.invariant.outer in
    let o = λ (t : IsTrue c.args.noted). noting-more A G ks (k ∷ []) k (c.in-Some.below ∷ reverse c.pop.new.self.items) mss (awaited t) in
    let last : length c.bodies.known ≡ length ks + 0 = omega (arith, length-map c.bodies.known (λ (e : RuleStates g.row.A-State.Denot × g.row.A-State.Denot). e.0)) in
    let there : slice_get (ks ++ k ∷ []) (length c.bodies.known) ≡ Some k = ap (slice_get (ks ++ k ∷ [])) last ∙ slice_get-right ks (k ∷ []) 0 in
    let r : ReadsOnce A G (keys c.bodies.known ++ (key_of c.bodies.frame.pair ∷ keys_of (c.in-Some.below ∷ reverse c.pop.new.self.items))) (read + (c.bodies.steps - c.args.steps.now)) = rw e at c.bodies.invariant.reads in
    let s = frames-stands A G c.bodies.frame (reverse c.bodies.frames.items) c.bodies.invariant.frames in
    let stacked = stacked-return A G c.bodies.frame c.in-Some.below (reverse c.pop.new.self.items) c.in-Done.state _ c.advance.new.stack.items c.hand_back.new.stack.items _ _ f (rw e at c.bodies.invariant.stacked)
    (c.in_ok-pair.ensures.cleared c.in-Done.state c.in-Done.is) (c.in_ok-pair.ensures.emptied c.in-Done.state c.in-Done.is) d h.stack in
    record {
      right = rw n (All-append (λ e. e.1 ≡ state_at A G e.0) c.bodies.known (entry ∷ []) c.bodies.invariant.right (all-one (λ e. e.1 ≡ state_at A G e.0) entry d));
      pairs = rw (n, map-append (λ e. e.0) c.bodies.known (entry ∷ [])) (All-append (IsPair G) (keys c.bodies.known) (key_of c.bodies.frame.pair ∷ []) c.bodies.invariant.pairs (all-one (IsPair G) (key_of c.bodies.frame.pair) s.pair));
      frames = rw h.frame f.3;
      stacked = rw h.frame stacked;
      reads = rw (h.frame, n, keys-return A G c.bodies.known c.bodies.frame (c.in-Some.below ∷ reverse c.pop.new.self.items) c.in-Done.state) r;
      closing = rw (h.frame, n) (closing-return A G c.bodies.known c.bodies.frame c.in-Some.below (reverse c.pop.new.self.items) c.in-Done.state (rw e at c.bodies.invariant.closing) (c.in_ok-pair.ensures.closed c.in-Done.state c.in-Done.is));
      counted = c.bodies.invariant.counted;
      kept = rw kn (keeps-return A G c.args.noted ks k c.bodies.bodies c.keep.new.self top c.bodies.invariant.kept ended c.in_ok-keep-in-Done.ensures.kept c.in_ok-keep-in-Done.ensures.stays);
      noted = λ t. rw (h.frame, kn, h.top t, c.in_ok-keep-in-Done.ensures.below, c.in_ok-pair.ensures.below) (noted-call A G (ks ++ k ∷ []) c.in-Some.below k (get_or mss 0 []) (o t).0 (length c.bodies.known) there);
      outer = λ t. rw (h.frame, kn, h.below, c.in_ok-keep-in-Done.ensures.below, c.in_ok-pair.ensures.below) (o t).1;
    }

pub bodies-smaller : goal.bodies-smaller
bodies-smaller g c =
    let G = rules_of c.args.grammar.now.rules in
    let e = ap reverse c.in-Some.ensures.items ∙ reverse-push c.pop.new.self.items c.in-Some.below in
    let s = ap (sum_by (cost G)) e ∙ sum_by-cons (cost G) c.in-Some.below (reverse c.pop.new.self.items) in
    rw c.in_ok-hand_back-in-Some.ensures.frame (omega (arith, s))
