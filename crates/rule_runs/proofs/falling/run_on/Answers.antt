use Rattle.std.proofs.Common.{◌-◌, ◌+◌, ◌*◌, ◌<◌, ◌∙◌, ◌++◌, ◌∷◌, [], refl, sym, ap, subst, arith, reverse, take, length, get_or, sum_by, All}
use Rattle.std.proofs.lemmas.List.Sums.{sum_by-cons}
use Rattle.std.proofs.lemmas.List.Elements.{All-append, All-cons, All-head, All-nil, All-tail, All-weaker}
use Rattle.slt_grammar.specs.Grammars.{body_at, value}
use Rattle.slt_grammar.specs.Keyed.{rules_of}
use Rattle.rule_runs.specs.Reached.{FallsOnce}
use Rattle.rule_runs.specs.Descents.{HasOutcome, Asks, AreWaiting, triple_at, fall_cost}
use Rattle.rule_runs.specs.Notes.{HasBody}
use Rattle.rule_runs.specs.Outcomes.{outcome}
use Rattle.rule_runs.specs.Risen.{keys, pair_at}
use Rattle.rule_runs.specs.Tellings.{extended}
use Rattle.rule_runs.proofs.Lists.{reverse-push, all-one, no_more}
use Rattle.rule_runs.proofs.Descents.{waiting-more}
use Rattle.rule_runs.proofs.Triples.{known_triples, open_triples, start-last, falls-start, falls-more, pair-of, waiting-begin, triples-return, stands-again, frame-small, outer-small, fall-cost-begin, fall-cost-less, whole-told, outcomes-more, spot-apart}
use Rattle.rule_runs.proofs.Found.{found, found-hits, found-right, found-small}
use Rattle.rule_runs.proofs.Rooms.{walk-room-call}
use Rattle.rule_runs.proofs.falling.run_on.Goals as goal

pub bodies-init : goal.bodies-init
bodies-init g c =
    let A = g.A.Rising.algebra c.args.automaton.now in
    let W = g.A.Falling.downward c.args.automaton.now in
    let G = rules_of c.args.grammar.now.rules in
    let es = c.args.risen.now.known in
    let first = c.args.frame.now.spot in
    let start = c.requires.start in
    let p = ap (λ x. x.pair) start in
    let last = start-last A W G es c.requires.run in
    let once = falls-start A W G es c.requires.run c.rules-rules.ensures.grammar first (2 * length (body_at G (pair_at (keys es) first.pair).0) + (c.args.steps.now - c.args.steps.now)) p (ap (λ x. x.down) start) (omega arith) in
    record {
      outcomes = rw c.requires.known (All-nil (λ e. HasOutcome A W G (keys es) c.args.lists.now e.0 e.1));
      kept = c.requires.kept;
      read = c.requires.read;
      outer = rw c.requires.frames (All-nil (λ f. HasBody c.args.bodies.now f.spot.pair));
      earlier = rw c.requires.lists (λ i lt. absurd (omega arith));
      listed = refl;
      there = omega (arith, p, last.1);
      stands = c.requires.stands;
      waiting = rw c.requires.frames start;
      reads = rw (c.requires.known, c.requires.frames) once;
      counted = omega arith;
      few = omega arith;
    }

pub unreachable-requires : goal.unreachable-requires
unreachable-requires g c =
    let none : HasBody c.bodies.bodies c.bodies.frame.spot.pair → ⊥ = rw (no_more c.notes.result c.in_default.not-Some) at c.notes.ensures.none in
    none c.bodies.invariant.read

pub descend-requires-clause-noted : goal.descend-requires-clause-noted
descend-requires-clause-noted g c = c.bodies.invariant.kept.noted c.bodies.frame.spot.pair c.in-Some.notes c.in-Some.ensures.some

pub descend-requires-clause-small : goal.descend-requires-clause-small
descend-requires-clause-small g c =
    let A = g.A.Rising.algebra c.args.automaton.now in
    let W = g.A.Falling.downward c.args.automaton.now in
    let G = rules_of c.args.grammar.now.rules in
    frame-small A W G (keys c.args.risen.now.known) c.rules-rules.ensures.grammar c.requires.small _ c.bodies.frame.spot _ _ c.bodies.invariant.reads

-- ---- a call whose outcome is known without reading
pub spent_outcome-requires-clause-there : goal.spent_outcome-requires-clause-there
spent_outcome-requires-clause-there g c =
    let asks = c.in_ok-spot.ensures.waits c.in-Waits.spot c.in-Waits.is in
    asks.there

pub pass_by-requires-clause-room : goal.pass_by-requires-clause-room
pass_by-requires-clause-room g c =
    let A = g.A.Rising.algebra c.args.automaton.now in
    let W = g.A.Falling.downward c.args.automaton.now in
    let G = rules_of c.args.grammar.now.rules in
    let ks = keys c.args.risen.now.known in
    let ls = c.descend.new.lists in
    let f' = c.descend.new.descent in
    let s = c.in-Waits.spot in
    let a = c.in_ok-spot.ensures.waits c.in-Waits.spot c.in-Waits.is in
    let h = rw c.in-Some-2.is at c.in_ok-last-in-Waits.ensures in
    let small = frame-small A W G ks c.rules-rules.ensures.grammar c.requires.small _ c.bodies.frame.spot _ _ c.bodies.invariant.reads in
    walk-room-call A W G ks ls (pair_at ks f'.spot.pair) f'.spot.down f'.handed.items s.pair (reverse (take f'.left a.waits.notes)) c.descend.new.marks.top f'.here s.down a.waits.walks (outcome c.spent_outcome.new.handed.items c.in-Some-2.last) (h ls) (rw c.in_ok-spot.ensures.same small)

pub pass_by-requires-clause-new : goal.pass_by-requires-clause-new
pass_by-requires-clause-new g c = c.in_ok-spot.ensures.new c.in-Waits.spot c.in-Waits.is

pub bodies-smaller-in-Continue-branch-5 : goal.bodies-smaller-in-Continue-branch-5
bodies-smaller-in-Continue-branch-5 g c =
    let A = g.A.Rising.algebra c.args.automaton.now in
    let W = g.A.Falling.downward c.args.automaton.now in
    let G = rules_of c.args.grammar.now.rules in
    let ks = keys c.args.risen.now.known in
    let a = c.in_ok-spot.ensures.waits c.in-Waits.spot c.in-Waits.is in
    let k = fall-cost-less A W G ks c.bodies.frame c.descend.new.descent (pair_at ks c.in-Waits.spot.pair).0 a.earlier c.in_ok-spot.ensures.same a.fewer in
    omega (arith, k)

pub bodies-preserved-in-Continue-branch-5 : goal.bodies-preserved-in-Continue-branch-5
bodies-preserved-in-Continue-branch-5 g c =
    let A = g.A.Rising.algebra c.args.automaton.now in
    let W = g.A.Falling.downward c.args.automaton.now in
    let G = rules_of c.args.grammar.now.rules in
    let es = c.args.risen.now.known in
    let ks = keys es in
    let ls = c.bodies.lists in
    let ls' = c.descend.new.lists in
    let gs = reverse c.bodies.frames.items in
    let mss = c.bodies.marks.below in
    let mt = c.descend.new.marks.top in
    let f = c.bodies.frame in
    let f' = c.descend.new.descent in
    let s = c.in-Waits.spot in
    let out = outcome c.spent_outcome.new.handed.items c.in-Some-2.last in
    let a = c.in_ok-spot.ensures.waits c.in-Waits.spot c.in-Waits.is in
    let n = c.in_ok-spot.ensures.new c.in-Waits.spot c.in-Waits.is in
    let h = (rw c.in-Some-2.is at c.in_ok-last-in-Waits.ensures) ls' in
    let m = c.in_ok-spot.ensures.more in
    let same = c.in_ok-spot.ensures.same in
    let passed = c.in_ok-pass_by-in-Some-2.ensures in
    let read = 2 * length (body_at G (pair_at ks c.args.frame.now.spot.pair).0) in
    let there : f'.spot.pair < length ks = rw same c.bodies.invariant.there in
    let w1 = waiting-more A W G ks ls m.0 f.spot gs mss c.bodies.invariant.waiting in
    let w2 : AreWaiting A W G ks ls' f.spot gs mss = subst (λ x. AreWaiting A W G ks x f.spot gs mss) (sym m.1) w1 in
    let r = falls-more A W G ks c.requires.run.distinct ls c.bodies.known f f' gs mss mt s (read + (c.bodies.steps - c.args.steps.now)) (read + (c.bodies.steps - c.args.steps.now)) ls' c.bodies.invariant.reads c.bodies.invariant.waiting a c.bodies.invariant.outcomes n (omega arith) in
    record {
      outcomes = rw passed.known (All-append (λ e. HasOutcome A W G ks ls' e.0 e.1) c.bodies.known _ (subst (λ x. All (λ e. HasOutcome A W G ks x e.0 e.1) c.bodies.known) (sym m.1) (outcomes-more A W G ks ls m.0 c.bodies.known c.bodies.invariant.outcomes)) (all-one (λ e. HasOutcome A W G ks ls' e.0 e.1) (s, out) h));
      kept = c.bodies.invariant.kept;
      read = rw same c.bodies.invariant.read;
      outer = c.bodies.invariant.outer;
      earlier = c.in_ok-spot.ensures.earlier;
      listed = ap (λ l. l.kept) m.1 ∙ c.bodies.invariant.listed;
      there = there;
      stands = stands-again A W G ks c.rules-rules.ensures.grammar ls' f' (record { spot = f'.spot; left = f'.left; here = c.pass_by.new.here; handed = f'.handed }) s out mt c.pass_by.new.marks.top refl refl refl (pair-of A W G es c.requires.run f'.spot.pair there) a.waits h (λ s ms ss. passed.entered ls' s ms ss);
      waiting = rw (passed.below, c.in_ok-spot.ensures.below, same) w2;
      reads = rw (passed.known, triples-return A W G ks c.bodies.known s out (f' ∷ gs), same) r;
      counted = c.bodies.invariant.counted;
      few = c.bodies.invariant.few;
    }

-- ---- a body that waits
pub wait_for-requires-clause-there : goal.wait_for-requires-clause-there
wait_for-requires-clause-there g c =
    let asks = c.in_ok-spot.ensures.waits c.in-Waits.spot c.in-Waits.is in
    asks.there

pub wait_for-requires-clause-met : goal.wait_for-requires-clause-met
wait_for-requires-clause-met g c =
    let asks = c.in_ok-spot.ensures.waits c.in-Waits.spot c.in-Waits.is in
    asks.met

pub returns-in_err-wait_for-in-None-clause-steps : goal.returns-in_err-wait_for-in-None-clause-steps
returns-in_err-wait_for-in-None-clause-steps g c =
    let A = g.A.Rising.algebra c.args.automaton.now in
    let W = g.A.Falling.downward c.args.automaton.now in
    let G = rules_of c.args.grammar.now.rules in
    let ks = keys c.args.risen.now.known in
    let a = c.in_ok-spot.ensures.waits c.in-Waits.spot c.in-Waits.is in
    let n = c.in_ok-spot.ensures.new c.in-Waits.spot c.in-Waits.is in
    let k = c.wait_for.ensures.steps in
    let o = c.bodies.invariant.counted in
    let read = 2 * length (body_at G (pair_at ks c.args.frame.now.spot.pair).0) in
    (_, falls-more A W G ks c.requires.run.distinct c.bodies.lists c.bodies.known c.bodies.frame c.descend.new.descent (reverse c.bodies.frames.items) c.bodies.marks.below c.descend.new.marks.top c.in-Waits.spot (read + (c.bodies.steps - c.args.steps.now)) (read + (c.wait_for.new.steps - c.args.steps.now)) c.descend.new.lists c.bodies.invariant.reads c.bodies.invariant.waiting a c.bodies.invariant.outcomes n (omega arith))

pub bodies-smaller-in-Continue-branch-6 : goal.bodies-smaller-in-Continue-branch-6
bodies-smaller-in-Continue-branch-6 g c =
    let A = g.A.Rising.algebra c.args.automaton.now in
    let W = g.A.Falling.downward c.args.automaton.now in
    let G = rules_of c.args.grammar.now.rules in
    let es = c.args.risen.now.known in
    let ks = keys es in
    let a = c.in_ok-spot.ensures.waits c.in-Waits.spot c.in-Waits.is in
    let begun = c.in_ok-wait_for-in-None.ensures in
    let e = ap reverse begun.aside ∙ reverse-push c.bodies.frames.items c.descend.new.descent in
    let p = pair-of A W G es c.requires.run c.in-Waits.spot.pair a.there in
    let k = fall-cost-begin A W G ks c.bodies.frame c.descend.new.descent c.wait_for.new.frame (reverse c.bodies.frames.items) (pair_at ks c.in-Waits.spot.pair).0 p.there a.earlier c.in_ok-spot.ensures.same a.fewer (ap (λ s. (pair_at ks s.pair).0) begun.spot) begun.cost in
    rw e k

pub bodies-preserved-in-Continue-branch-6 : goal.bodies-preserved-in-Continue-branch-6
bodies-preserved-in-Continue-branch-6 g c =
    let A = g.A.Rising.algebra c.args.automaton.now in
    let W = g.A.Falling.downward c.args.automaton.now in
    let G = rules_of c.args.grammar.now.rules in
    let ks = keys c.args.risen.now.known in
    let ls = c.bodies.lists in
    let gs = reverse c.bodies.frames.items in
    let f = c.bodies.frame in
    let f' = c.descend.new.descent in
    let s = c.in-Waits.spot in
    let a = c.in_ok-spot.ensures.waits c.in-Waits.spot c.in-Waits.is in
    let n = c.in_ok-spot.ensures.new c.in-Waits.spot c.in-Waits.is in
    let k = c.wait_for.ensures.steps in
    let o = c.bodies.invariant.counted in
    let m = c.in_ok-spot.ensures.more in
    let same = c.in_ok-spot.ensures.same in
    let begun = c.in_ok-wait_for-in-None.ensures in
    let read = 2 * length (body_at G (pair_at ks c.args.frame.now.spot.pair).0) in
    let r = falls-more A W G ks c.requires.run.distinct ls c.bodies.known f f' gs c.bodies.marks.below c.descend.new.marks.top s (read + (c.bodies.steps - c.args.steps.now)) (read + (c.wait_for.new.steps - c.args.steps.now)) c.descend.new.lists c.bodies.invariant.reads c.bodies.invariant.waiting a c.bodies.invariant.outcomes n (omega arith) in
    let e = ap reverse begun.aside ∙ reverse-push c.bodies.frames.items f' in
    let mt = c.descend.new.marks.top in
    let a' : Asks A W G ks (extended ls m.0) f s f' mt = subst (λ x. Asks A W G ks x f s f' mt) m.1 a in
    let w = waiting-begin A W G ks ls m.0 f f' gs c.bodies.marks.below mt s c.bodies.invariant.waiting c.bodies.invariant.there a' same in
    record {
      outcomes = subst (λ x. All (λ e. HasOutcome A W G ks x e.0 e.1) c.bodies.known) (sym m.1) (outcomes-more A W G ks ls m.0 c.bodies.known c.bodies.invariant.outcomes);
      kept = c.wait_for.ensures.kept;
      read = rw begun.spot begun.read;
      outer = rw e (All-weaker (λ f. HasBody c.bodies.bodies f.spot.pair) (λ f. HasBody c.wait_for.new.bodies f.spot.pair) (λ f h. c.wait_for.ensures.stays f.spot.pair h) (f' ∷ gs) (All-cons (λ f. HasBody c.bodies.bodies f.spot.pair) f' gs (rw same c.bodies.invariant.read) c.bodies.invariant.outer));
      earlier = c.in_ok-spot.ensures.earlier;
      listed = ap (λ l. l.kept) m.1 ∙ c.bodies.invariant.listed;
      there = rw begun.spot a.there;
      stands = begun.stands c.descend.new.lists;
      waiting = rw (e, begun.spot, begun.below, c.in_ok-spot.ensures.below) (subst (λ x. AreWaiting A W G ks x s (f' ∷ gs) (mt ∷ c.bodies.marks.below)) (sym m.1) w);
      reads = rw (e, begun.spot, same) r;
      counted = (let h = c.wait_for.ensures.counted in omega arith);
      few = (let h = begun.once in let few = c.bodies.invariant.few in omega arith);
    }

-- ---- a body that is done
pub returns-in-None-pop-clause-fallen : goal.returns-in-None-pop-clause-fallen
returns-in-None-pop-clause-fallen g c =
    let A = g.A.Rising.algebra c.args.automaton.now in
    let W = g.A.Falling.downward c.args.automaton.now in
    let G = rules_of c.args.grammar.now.rules in
    let h = c.in_ok-spot.ensures.done c.in-Done.last c.in-Done.is in
    let t = whole-told A W G c.args.risen.now.known c.requires.run c.rules-rules.ensures.grammar c.bodies.lists c.descend.new.lists c.bodies.frame.spot c.descend.new.descent.spot c.bodies.frames.items c.bodies.marks.below (outcome c.descend.new.descent.handed.items c.in-Done.last)
    (omega (arith, c.in-None-pop.ensures.cases.0, c.bodies.frames.ok.0)) c.bodies.invariant.waiting c.in_ok-spot.ensures.same h in
    record {
      found = found A W (value G);
      tells = t;
      numbered = found-hits A W (value G);
      symbols = found-right A W (value G);
      small = found-small A W (value G) c.requires.small;
      earlier = c.in_ok-spot.ensures.earlier;
    }

pub hand_back-requires-clause-room : goal.hand_back-requires-clause-room
hand_back-requires-clause-room g c =
    let A = g.A.Rising.algebra c.args.automaton.now in
    let W = g.A.Falling.downward c.args.automaton.now in
    let G = rules_of c.args.grammar.now.rules in
    let ks = keys c.args.risen.now.known in
    let ls = c.descend.new.lists in
    let f = c.bodies.frame in
    let f' = c.descend.new.descent in
    let below = c.in-Some-pop.below in
    let gs = reverse c.pop.new.self.items in
    let h = c.in_ok-spot.ensures.done c.in-Done.last c.in-Done.is in
    let m = c.in_ok-spot.ensures.more in
    let e = ap reverse c.in-Some-pop.ensures.items ∙ reverse-push c.pop.new.self.items below in
    let mss = c.bodies.marks.below in
    let read = 2 * length (body_at G (pair_at ks c.args.frame.now.spot.pair).0) in
    let w0 : AreWaiting A W G ks c.bodies.lists f.spot (below ∷ gs) mss = rw e at c.bodies.invariant.waiting in
    let w1 = waiting-more A W G ks c.bodies.lists m.0 f.spot (below ∷ gs) mss w0 in
    let w2 : AreWaiting A W G ks ls f.spot (below ∷ gs) mss = subst (λ x. AreWaiting A W G ks x f.spot (below ∷ gs) mss) (sym m.1) w1 in
    let w3 : AreWaiting A W G ks ls f'.spot (below ∷ gs) mss = subst (λ x. AreWaiting A W G ks ls x (below ∷ gs) mss) (sym c.in_ok-spot.ensures.same) w2 in
    let r : FallsOnce A W G (known_triples A W G ks c.bodies.known ++ (triple_at ks f.spot ∷ open_triples A W G ks (below ∷ gs))) (read + (c.bodies.steps - c.args.steps.now)) = rw e at c.bodies.invariant.reads in
    let small = outer-small A W G ks c.rules-rules.ensures.grammar c.requires.small (known_triples A W G ks c.bodies.known) (triple_at ks f.spot) below.spot (open_triples A W G ks gs) _ r in
    walk-room-call A W G ks ls (pair_at ks below.spot.pair) below.spot.down below.handed.items f'.spot.pair (reverse (take below.left w3.0.notes)) (get_or mss 0 []) below.here f'.spot.down w3.0.walks (outcome f'.handed.items c.in-Done.last) h small

pub hand_back-requires-clause-new : goal.hand_back-requires-clause-new
hand_back-requires-clause-new g c =
    let A = g.A.Rising.algebra c.args.automaton.now in
    let W = g.A.Falling.downward c.args.automaton.now in
    let G = rules_of c.args.grammar.now.rules in
    let r = c.bodies.invariant.reads in
    rw c.in_ok-spot.ensures.same (spot-apart A W G (keys c.args.risen.now.known) c.bodies.known c.bodies.frame.spot _ r.distinct)

pub bodies-preserved : goal.bodies-preserved
bodies-preserved g c =
    let A = g.A.Rising.algebra c.args.automaton.now in
    let W = g.A.Falling.downward c.args.automaton.now in
    let G = rules_of c.args.grammar.now.rules in
    let es = c.args.risen.now.known in
    let ks = keys es in
    let ls = c.bodies.lists in
    let ls' = c.descend.new.lists in
    let f = c.bodies.frame in
    let f' = c.descend.new.descent in
    let below = c.in-Some-pop.below in
    let gs = reverse c.pop.new.self.items in
    let h = c.in_ok-spot.ensures.done c.in-Done.last c.in-Done.is in
    let m = c.in_ok-spot.ensures.more in
    let same = c.in_ok-spot.ensures.same in
    let handed = c.in_ok-hand_back-in-Some-pop.ensures in
    let e = ap reverse c.in-Some-pop.ensures.items ∙ reverse-push c.pop.new.self.items below in
    let mss = c.bodies.marks.below in
    let read = 2 * length (body_at G (pair_at ks c.args.frame.now.spot.pair).0) in
    let w0 : AreWaiting A W G ks ls f.spot (below ∷ gs) mss = rw e at c.bodies.invariant.waiting in
    let w1 = waiting-more A W G ks ls m.0 f.spot (below ∷ gs) mss w0 in
    let w2 : AreWaiting A W G ks ls' f.spot (below ∷ gs) mss = subst (λ x. AreWaiting A W G ks x f.spot (below ∷ gs) mss) (sym m.1) w1 in
    let w3 : AreWaiting A W G ks ls' f'.spot (below ∷ gs) mss = subst (λ x. AreWaiting A W G ks ls' x (below ∷ gs) mss) (sym same) w2 in
    let outer : All (λ f. HasBody c.bodies.bodies f.spot.pair) (below ∷ gs) = rw e at c.bodies.invariant.outer in
    let pair = pair-of A W G es c.requires.run below.spot.pair w3.2 in
    let r : FallsOnce A W G (known_triples A W G ks c.bodies.known ++ (triple_at ks f.spot ∷ open_triples A W G ks (below ∷ gs))) (read + (c.bodies.steps - c.args.steps.now)) = rw e at c.bodies.invariant.reads in
    record {
      outcomes = rw handed.known (All-append (λ e. HasOutcome A W G ks ls' e.0 e.1) c.bodies.known _ (subst (λ x. All (λ e. HasOutcome A W G ks x e.0 e.1) c.bodies.known) (sym m.1) (outcomes-more A W G ks ls m.0 c.bodies.known c.bodies.invariant.outcomes)) (all-one (λ e. HasOutcome A W G ks ls' e.0 e.1) (f'.spot, outcome f'.handed.items c.in-Done.last) h));
      kept = c.bodies.invariant.kept;
      read = rw handed.spot (All-head (λ f. HasBody c.bodies.bodies f.spot.pair) below gs outer);
      outer = All-tail (λ f. HasBody c.bodies.bodies f.spot.pair) below gs outer;
      earlier = c.in_ok-spot.ensures.earlier;
      listed = ap (λ l. l.kept) m.1 ∙ c.bodies.invariant.listed;
      there = rw handed.spot w3.2;
      stands = stands-again A W G ks c.rules-rules.ensures.grammar ls' below c.hand_back.new.frame f'.spot (outcome f'.handed.items c.in-Done.last) (get_or mss 0 []) c.hand_back.new.marks.top handed.spot handed.left handed.handed pair w3.0 h (λ s ms ss. rw c.in_ok-spot.ensures.below at (handed.entered ls' s ms ss));
      waiting = rw (handed.spot, handed.below, c.in_ok-spot.ensures.below) w3.3;
      reads = rw (handed.known, handed.spot, triples-return A W G ks c.bodies.known f'.spot (outcome f'.handed.items c.in-Done.last) (below ∷ gs), same) r;
      counted = c.bodies.invariant.counted;
      few = c.bodies.invariant.few;
    }

pub bodies-smaller : goal.bodies-smaller
bodies-smaller g c =
    let G = rules_of c.args.grammar.now.rules in
    let ks = keys c.args.risen.now.known in
    let handed = c.in_ok-hand_back-in-Some-pop.ensures in
    let e = ap reverse c.in-Some-pop.ensures.items ∙ reverse-push c.pop.new.self.items c.in-Some-pop.below in
    let s = ap (sum_by (fall_cost G ks)) e ∙ sum_by-cons (fall_cost G ks) c.in-Some-pop.below (reverse c.pop.new.self.items) in
    rw (handed.left, handed.spot) (omega (arith, s))
