-- The pairs that a run upward reads: each is met, and no two are the same.
use Rattle.rule_runs.proofs.Closing.{closing-end}
use Rattle.std.proofs.lemmas.List.Elements.{All-append, All-cons, All-head, All-map, All-nil, All-tail}
use Rattle.std.proofs.Common.{◌≡◌, ◌≢◌, ℕ, ◌+◌, ◌-◌, ◌*◌, ◌^◌, ◌<◌, ◌≤◌, List, [], ◌∷◌, ◌++◌, length, drop, reverse, sum_by, refl, sym, ap, ◌∙◌, arith, append_assoc, All}
use Rattle.std.proofs.lemmas.List.{map-append}
use Rattle.std.proofs.lemmas.List.Sums.{get_or-le-sum_by, sum_by-append}
use Rattle.slt_grammar.specs.Algebras.{Algebra}
use Rattle.slt_grammar.specs.Terms.{up}
use Rattle.slt_grammar.specs.Grammars.{IsGrammar, body_at, value, no_rule, whole}
use Rattle.rule_runs.specs.Reached.{RuleStates, Uses, at_start, at_call, ReadsOnce}
use Rattle.slt_grammar.specs.declared.rules.Rule.{Rule}
use Rattle.slt_grammar.proofs.Carrying.{up-value_at}
use Rattle.rule_arena.specs.declared.label.Label.{Label}
use Rattle.rule_runs.specs.declared.memo.Pair.{Pair}
use Rattle.rule_runs.specs.declared.frame.Frame.{Frame}
use Rattle.rule_runs.specs.Entries.{key_of}
use Rattle.rule_runs.specs.Risen.{IsPair, IsRun, state_at, keys, AreKnown}
use Rattle.rule_runs.specs.Frames.{Stands, Waits, AreFrames, AreStacked, GivesWay, own, ahead, below, behind, keys_of, cost, base, IsClosing}
use Rattle.rule_runs.proofs.Lists.{reverse-push, cost-lt, all-at, all-insert, all-one, distinct-one, distinct-insert, sum-insert}

module _ {S : Type 0} (A : Algebra S) (G : List Rule) where
  pub frames-stands : (f : Frame S) (gs : List (Frame S)) → AreFrames A G f gs → Stands A G f
  frames-stands f [] h = h.0
  frames-stands f (g ∷ gs) h = h.0

  -- the rules of the outer bodies are later ones
  pub outer-later : (r : ℕ) (f : Frame S) (gs : List (Frame S)) → r ≤ f.pair.rule → AreFrames A G f gs → All (λ g. r < g.pair.rule) gs
  outer-later r f [] h a = All-nil (λ (g : Frame S). r < g.pair.rule)
  outer-later r f (g ∷ gs) h a = let k = a.1 in All-cons (λ (g : Frame S). r < g.pair.rule) g gs (omega arith) (outer-later r g gs (omega arith) a.3)

  others-later : (q : RuleStates S) (gs : List (Frame S)) → All (λ g. q.0 < g.pair.rule) gs → All (λ k. k ≢ q) (keys_of gs)
  others-later q [] e = All-nil (λ (k : RuleStates S). k ≢ q)
  others-later q (g ∷ gs) e =
      let P : Frame S → Type 0 = λ g. q.0 < g.pair.rule in
      let l = All-head P g gs e in
      All-cons (λ (k : RuleStates S). k ≢ q) (key_of g.pair) (keys_of gs) (λ h. let k : g.pair.rule ≡ q.0 = ap (λ (k : RuleStates S). k.0) h in absurd (omega arith)) (others-later q gs (All-tail P g gs e))

  -- a pair that is not known is read too
  pub reads-more : (known : List (RuleStates S × S)) (f f' : Frame S) (gs : List (Frame S)) (pair : Pair S) (n m : ℕ)
      → ReadsOnce A G (keys known ++ (key_of f.pair ∷ keys_of gs)) n → AreFrames A G f gs → Waits A G f pair f' → All (λ e. e.0 ≢ key_of pair) known
      → m ≤ n + 2 * length (body_at G pair.rule)
      → ReadsOnce A G (keys known ++ (key_of pair ∷ key_of f.pair ∷ keys_of gs)) m
  reads-more known f f' gs pair n m reads frames waits new le =
      let q : RuleStates S = key_of pair in
      let ks : List (RuleStates S) = keys known in
      let ls : List (RuleStates S) = key_of f.pair ∷ keys_of gs in
      let u : Uses S A G f.pair.rule f.pair.states.items = all-at (λ (p : RuleStates S). Uses S A G p.0 p.1) ks (key_of f.pair) (keys_of gs) reads.met in
      let calls = waits.calls in
      let v : Uses S A G pair.rule pair.states.items = rw calls.states (at_call f.pair.rule f.pair.states.items calls.place pair.rule u calls.is) in
      let e = waits.earlier in
      let later = outer-later pair.rule f gs (omega arith) frames in
      let apart : All (λ k. k ≢ q) (ks ++ ls) = All-append (λ (k : RuleStates S). k ≢ q) ks ls (All-map (λ (k : RuleStates S). k ≢ q) (λ (e : RuleStates S × S). e.0) known new) (others-later q (f ∷ gs) (All-cons (λ (g : Frame S). q.0 < g.pair.rule) f gs e later)) in
      let b = reads.bound in
      record {
        met = all-insert (λ (p : RuleStates S). Uses S A G p.0 p.1) ks q ls v reads.met;
        distinct = distinct-insert ks q ls reads.distinct apart;
        bound = omega (arith, sum-insert (λ (p : RuleStates S). length (body_at G p.0)) ks q ls);
      }

  -- the same pairs are read with fewer steps
  pub reads-fewer : (pairs : List (RuleStates S)) (n m : ℕ) → ReadsOnce A G pairs n → m ≤ n → ReadsOnce A G pairs m
  reads-fewer pairs n m reads le = record { met = reads.met; distinct = reads.distinct; bound = (let b = reads.bound in omega arith) }

  -- the first pair
  pub reads-start : (n : ℕ) → IsGrammar G → n ≤ 2 * length (body_at G (length G - 1)) → ReadsOnce A G ((length G - 1, []) ∷ []) n
  reads-start n g le =
      let some = g.some in
      record {
        met = all-one (λ (p : RuleStates S). Uses S A G p.0 p.1) (length G - 1, []) (at_start (length G - 1) (omega arith));
        distinct = distinct-one (length G - 1, []);
        bound = omega arith;
      }

  pub frames-wait : (f f' : Frame S) (gs : List (Frame S)) → AreFrames A G f gs → f'.pair ≡ f.pair → Stands A G f' → AreFrames A G f' gs
  frames-wait f f' [] a e s = (s, ap key_of e ∙ a.1)
  frames-wait f f' (g ∷ gs) a e s = (s, rw e a.1, rw e a.2, a.3)

  pub frames-begin : (f f' c : Frame S) (gs : List (Frame S)) (pair : Pair S) → AreFrames A G f gs → Waits A G f pair f' → f'.pair ≡ f.pair → c.pair ≡ pair → Stands A G c → AreFrames A G c (f' ∷ gs)
  frames-begin f f' c gs pair a w e h s = (s, rw (e, h) w.earlier, rw h w.expects, frames-wait f f' gs a e w.stands)

  -- what is on the shared lists where the first pair is begun
  pub stacked-start : (c : Frame S) (stack : List S) (labels more : List Label) → stack ≡ [] → labels ≡ [] → own A G c ≡ [] → more ≡ ahead G c ++ reverse labels → AreStacked A G c [] (reverse stack) more
  stacked-start c stack labels more empty none own_none begun = record {
    states = ap reverse empty ∙ sym (ap (λ ss. ss ++ []) own_none);
    labels = begun ∙ ap (λ ls. ahead G c ++ reverse ls) none;
  }

  -- where another pair is begun, and where a frame has got its state
  pub stacked-begin : (f f' c : Frame S) (gs : List (Frame S)) (stack stack' : List S) (labels labels' more : List Label) → AreStacked A G f gs stack labels
      → GivesWay (own A G f) (drop 1 (own A G f')) stack stack' → GivesWay (ahead G f) (ahead G f') labels labels' → own A G c ≡ [] → more ≡ ahead G c ++ labels' → AreStacked A G c (f' ∷ gs) stack' more
  stacked-begin f f' c gs stack stack' labels labels' more s states given none begun = record {
    states = states (below A G gs) s.states ∙ ap (λ xs. xs ++ (drop 1 (own A G f') ++ below A G gs)) (sym none);
    labels = begun ∙ ap (λ ls. ahead G c ++ ls) (given (behind G gs) s.labels);
  }

  pub stacked-return : (f g : Frame S) (gs : List (Frame S)) (s : S) (stack rest pushed : List S) (labels left : List Label) → AreFrames A G f (g ∷ gs) → AreStacked A G f (g ∷ gs) stack labels
      → GivesWay (own A G f) [] stack (reverse rest) → GivesWay (ahead G f) [] labels left → s ≡ state_at A G (key_of f.pair) → pushed ≡ rest ++ s ∷ [] → AreStacked A G g gs (reverse pushed) left
  stacked-return f g gs s stack rest pushed labels left frames st states given is more = record {
    states = ap reverse more ∙ reverse-push rest s ∙ ap (λ x. x ∷ reverse rest) is ∙ ap (λ xs. state_at A G (key_of f.pair) ∷ xs) (states (below A G (g ∷ gs)) st.states) ∙ ap (λ xs. xs ++ below A G gs) (sym frames.2);
    labels = given (behind G (g ∷ gs)) st.labels;
  }

  -- a pair that has its state moves from the bodies to the table
  pub keys-return : (known : List (RuleStates S × S)) (f : Frame S) (gs : List (Frame S)) (s : S) → keys (known ++ (key_of f.pair, s) ∷ []) ++ keys_of gs ≡ keys known ++ (key_of f.pair ∷ keys_of gs)
  keys-return known f gs s = rw (map-append (λ (e : RuleStates S × S). e.0) known ((key_of f.pair, s) ∷ [])) (append_assoc (keys known) (key_of f.pair ∷ []) (keys_of gs))

  pub start-pair : IsGrammar G → IsPair {S = S} G (length G - 1, [])
  start-pair g = let some = g.some in record { there = omega arith; args = sym ((g.each (length G - 1) (omega arith)).shaped.start (omega arith)) }

  pub top-state : IsGrammar G → (f : Frame S) (s : S) → AreFrames A G f [] → s ≡ state_at A G (key_of f.pair) → s ≡ up A (value G) []
  top-state g f s a e =
      let p = start-pair g in
      e ∙ ap (state_at A G) a.1 ∙ sym (up-value_at A G (length G - 1) [] p.args)

  -- the table with the start's state at its end is a whole run
  pub run-whole : (known : List (RuleStates S × S)) (f : Frame S) (s : S) (n : ℕ) → All (λ e. e.1 ≡ state_at A G e.0) known → All (IsPair G) (keys known) → AreFrames A G f []
      → ReadsOnce A G (keys known ++ (key_of f.pair ∷ [])) n → s ≡ state_at A G (key_of f.pair) → IsClosing A G known f [] → AreKnown A G known (key_of f.pair) 0 → IsRun A G (known ++ (key_of f.pair, s) ∷ [])
  run-whole known f s n right pairs frames reads e closing ended =
      let k : keys (known ++ (key_of f.pair, s) ∷ []) ≡ keys known ++ key_of f.pair ∷ [] = map-append (λ (e : RuleStates S × S). e.0) known ((key_of f.pair, s) ∷ []) in
      record {
        right = All-append (λ (e : RuleStates S × S). e.1 ≡ state_at A G e.0) known ((key_of f.pair, s) ∷ []) right (all-one (λ (e : RuleStates S × S). e.1 ≡ state_at A G e.0) (key_of f.pair, s) e);
        pairs = rw k (All-append (IsPair G) (keys known) (key_of f.pair ∷ []) pairs (all-one (IsPair G) (key_of f.pair) frames.0.pair));
        met = rw k reads.met;
        distinct = rw k reads.distinct;
        closed = closing-end A G known f s closing ended;
        start = (keys known, k ∙ ap (λ q. keys known ++ q ∷ []) frames.1);
      }

pub cost-begin : {S : Type 0} (G : List Rule) (f f' c : Frame S) (gs : List (Frame S)) (q : ℕ) → q < length G → q < f.pair.rule → f'.pair ≡ f.pair → f'.left < f.left → c.pair.rule ≡ q → c.left ≡ length (body_at G q) → cost G c + sum_by (cost G) (f' ∷ gs) < cost G f + sum_by (cost G) gs
cost-begin G f f' c gs q there qr e less h n =
    let l : length (body_at G q) ≤ whole G = get_or-le-sum_by (λ (R : Rule). length R.body) G q no_rule there in
    let k = cost-lt (base G) f.pair.rule q f.left f'.left (length (body_at G q)) qr less (omega arith) in
    let s = sum_by-append (cost G) (f' ∷ []) gs in
    let a : cost G c ≡ length (body_at G q) * base G ^ q + 1 = rw (h, n) refl in
    let b : cost G f' ≡ f'.left * base G ^ f.pair.rule + 1 = rw e refl in
    omega (arith, k, s, a, b)
