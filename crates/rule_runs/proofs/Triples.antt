-- The triples that a run downward reads: each is met, and no two are the same; and what the run has at its end.
use Rattle.std.proofs.Common.{◌≡◌, ◌≢◌, ℕ, ◌+◌, ◌-◌, ◌*◌, ◌^◌, ◌<◌, ◌≤◌, List, [], ◌∷◌, ◌++◌, length, get_or, take, drop, map, reverse, sum_by, Vec, Global, refl, ap, ◌∙◌, arith, append_assoc, All, AllPairs}
use Rattle.std.proofs.lemmas.List.Elements.{All-append, All-cons, All-get_or, All-head, All-nil, All-tail, All-weaker}
use Rattle.std.proofs.lemmas.List.{map-append, get_or_push, length_push}
use Rattle.std.proofs.lemmas.List.Sums.{get_or-le-sum_by, sum_by-append}
use Rattle.slt_grammar.specs.Algebras.{Algebra}
use Rattle.slt_grammar.specs.Automata.{Downward, nodes_in}
use Rattle.slt_grammar.specs.Grammars.{IsGrammar, body_at, value, value_at, no_rule, whole}
use Rattle.rule_runs.specs.Reached.{RuleStates, Falls, at_start, FallsOnce}
use Rattle.slt_grammar.specs.Terms.{holes, holes_of}
use Rattle.slt_grammar.specs.declared.rules.Rule.{Rule}
use Rattle.slt_grammar.proofs.Linear.{value_at-linear}
use Rattle.rule_runs.specs.declared.descent.Descent.{Descent}
use Rattle.rule_runs.specs.declared.descent.Mark.{Mark}
use Rattle.rule_runs.specs.declared.listing.Part.{Part}
use Rattle.rule_runs.specs.declared.spots.Spot.{Spot}
use Rattle.rule_runs.specs.Cuts.{Stretch, nothing, beside, cut}
use Rattle.rule_runs.specs.Descents.{AreOpen, HasOutcome, Standing, Waiting, Asks, AreWaiting, triple_at, fall_cost}
use Rattle.rule_runs.specs.Frames.{base}
use Rattle.rule_runs.specs.Outcomes.{Outcome, befores, downs_handed, tolds}
use Rattle.rule_runs.specs.Risen.{IsPair, IsRun, pair_at, keys}
use Rattle.rule_runs.specs.Tellings.{Listed, extended, Tells, IsTelling, AreTold}
use Rattle.rule_runs.specs.Walks.{Open, woven_marks}
use Rattle.rule_runs.proofs.Cutting.{cut-whole}
use Rattle.rule_runs.proofs.Found.{found}
use Rattle.rule_runs.proofs.Sizes.{met-within}
use Rattle.rule_runs.proofs.Lists.{empty_reverse, cost-lt, all-at, all-split, all-insert, all-one, all-unmap, distinct-one, distinct-insert, distinct-apart, one-place, sum-insert}
use Rattle.rule_runs.proofs.Descents.{walk-call, outcome-more, waiting-more}
use Rattle.rule_runs.proofs.Marks.{open-term}
use Rattle.rule_runs.proofs.Tellings.{told-only}

-- nothing is read
pub falls-none : {S D : Type 0} (A : Algebra S) (W : Downward S D) (G : List Rule) (n : ℕ) → n ≤ 0 → FallsOnce A W G [] n
falls-none {S} {D} A W G n le = record { met = All-nil (λ (t : RuleStates S × D). Falls S D A W G t.0.0 t.0.1 t.1); distinct = λ i j d l m. absurd (omega arith); bound = omega arith }

-- the same triples are read with fewer steps
pub falls-fewer : {S D : Type 0} (A : Algebra S) (W : Downward S D) (G : List Rule) (triples : List (RuleStates S × D)) (n m : ℕ) → FallsOnce A W G triples n → m ≤ n → FallsOnce A W G triples m
falls-fewer A W G triples n m reads le = record { met = reads.met; distinct = reads.distinct; bound = (let b = reads.bound in omega arith) }

module _ {S D : Type 0} (A : Algebra S) (W : Downward S D) (G : List Rule) (ks : List (RuleStates S)) where
  abbrev pub known_triples : List (Spot D × Outcome D) → List (RuleStates S × D)
  known_triples = map (λ e. triple_at ks e.0)

  abbrev pub open_triples : List (Descent D) → List (RuleStates S × D)
  open_triples = map (λ f. triple_at ks f.spot)

  -- the rules of the outer bodies are later ones
  pub outer-later : (r : ℕ) (lists : Listed) (spot : Spot D) (gs : List (Descent D)) (mss : List (List (Mark D))) → r ≤ (pair_at ks spot.pair).0 → AreWaiting A W G ks lists spot gs mss → All (λ g. r < (pair_at ks g.spot.pair).0) gs
  outer-later r lists spot [] mss h a = All-nil (λ (g : Descent D). r < (pair_at ks g.spot.pair).0)
  outer-later r lists spot (g ∷ gs) mss h a = let k = a.1 in All-cons (λ (g : Descent D). r < (pair_at ks g.spot.pair).0) g gs (omega arith) (outer-later r lists g.spot gs (drop 1 mss) (omega arith) a.3)

  others-apart : (spot : Spot D) (gs : List (Descent D)) → All (λ g. (pair_at ks spot.pair).0 < (pair_at ks g.spot.pair).0) gs → All (λ t. t ≢ triple_at ks spot) (open_triples gs)
  others-apart spot [] e = All-nil (λ (t : RuleStates S × D). t ≢ triple_at ks spot)
  others-apart spot (g ∷ gs) e =
      let P : Descent D → Type 0 = λ g. (pair_at ks spot.pair).0 < (pair_at ks g.spot.pair).0 in
      let l = All-head P g gs e in
      All-cons (λ (t : RuleStates S × D). t ≢ triple_at ks spot) (triple_at ks g.spot) (open_triples gs) (λ h. let k : (pair_at ks g.spot.pair).0 ≡ (pair_at ks spot.pair).0 = ap (λ (t : RuleStates S × D). t.0.0) h in absurd (omega arith)) (others-apart spot gs (All-tail P g gs e))

  known-apart : AllPairs (λ p q. p ≢ q) ks → (lists : Listed) (spot : Spot D) → spot.pair < length ks → (known : List (Spot D × Outcome D)) → All (λ e. HasOutcome A W G ks lists e.0 e.1) known → All (λ e. e.0 ≢ spot) known
      → All (λ t. t ≢ triple_at ks spot) (known_triples known)
  known-apart dk lists spot there [] h n = All-nil (λ (t : RuleStates S × D). t ≢ triple_at ks spot)
  known-apart dk lists spot there (e ∷ es) h n =
      let P : Spot D × Outcome D → Type 0 = λ e. HasOutcome A W G ks lists e.0 e.1 in
      let N : Spot D × Outcome D → Type 0 = λ e. e.0 ≢ spot in
      let first = All-head P e es h in
      All-cons (λ (t : RuleStates S × D). t ≢ triple_at ks spot) (triple_at ks e.0) (known_triples es)
      (λ q.
      let i : e.0.pair ≡ spot.pair = one-place ks e.0.pair spot.pair (0, []) dk first.there there (ap (λ (t : RuleStates S × D). t.0) q) in
      let d : e.0.down ≡ spot.down = ap (λ (t : RuleStates S × D). t.1) q in
      All-head N e es n (ap (λ (x : ℕ). record { pair = x; down = e.0.down }) i ∙ ap (λ (y : D). record { pair = spot.pair; down = y }) d))
      (known-apart dk lists spot there es (All-tail P e es h) (All-tail N e es n))

  -- a spot that is not known is read too
  pub falls-more : AllPairs (λ p q. p ≢ q) ks → (lists : Listed) (known : List (Spot D × Outcome D)) (f f' : Descent D) (gs : List (Descent D)) (mss : List (List (Mark D))) (ms : List (Mark D)) (spot : Spot D) (n m : ℕ) (lists' : Listed)
      → FallsOnce A W G (known_triples known ++ (triple_at ks f.spot ∷ open_triples gs)) n → AreWaiting A W G ks lists f.spot gs mss → Asks A W G ks lists' f spot f' ms
      → All (λ e. HasOutcome A W G ks lists e.0 e.1) known → All (λ e. e.0 ≢ spot) known → m ≤ n + 2 * length (body_at G (pair_at ks spot.pair).0)
      → FallsOnce A W G (known_triples known ++ (triple_at ks spot ∷ triple_at ks f.spot ∷ open_triples gs)) m
  falls-more dk lists known f f' gs mss ms spot n m lists' reads waiting asks outcomes new le =
      let q : RuleStates S × D = triple_at ks spot in
      let xs : List (RuleStates S × D) = known_triples known in
      let ys : List (RuleStates S × D) = triple_at ks f.spot ∷ open_triples gs in
      let e = asks.earlier in
      let later = outer-later (pair_at ks spot.pair).0 lists f.spot gs mss (omega arith) waiting in
      let apart : All (λ t. t ≢ q) (xs ++ ys) = All-append (λ (t : RuleStates S × D). t ≢ q) xs ys (known-apart dk lists spot asks.there known outcomes new) (others-apart spot (f ∷ gs) (All-cons (λ (g : Descent D). (pair_at ks spot.pair).0 < (pair_at ks g.spot.pair).0) f gs e later)) in
      let b = reads.bound in
      record {
        met = all-insert (λ (t : RuleStates S × D). Falls S D A W G t.0.0 t.0.1 t.1) xs q ys asks.met reads.met;
        distinct = distinct-insert xs q ys reads.distinct apart;
        bound = omega (arith, sum-insert (λ (t : RuleStates S × D). length (body_at G t.0.0)) xs q ys);
      }

  -- the bodies with the one that waits for a new spot
  pub waiting-begin : (lists : Listed) (more : List (Vec Part Global)) (f f' : Descent D) (gs : List (Descent D)) (mss : List (List (Mark D))) (ms : List (Mark D)) (spot : Spot D) → AreWaiting A W G ks lists f.spot gs mss → f.spot.pair < length ks → Asks A W G ks (extended lists more) f spot f' ms → f'.spot ≡ f.spot → AreWaiting A W G ks (extended lists more) spot (f' ∷ gs) (ms ∷ mss)
  waiting-begin lists more f f' gs mss ms spot waiting there asks e =
      (asks.waits, rw e asks.earlier, rw e there, rw e (waiting-more A W G ks lists more f.spot gs mss waiting))

  -- a spot that has its outcome moves from the bodies to the table
  pub triples-return : (known : List (Spot D × Outcome D)) (spot : Spot D) (outcome : Outcome D) (gs : List (Descent D)) → known_triples (known ++ (spot, outcome) ∷ []) ++ open_triples gs ≡ known_triples known ++ (triple_at ks spot ∷ open_triples gs)
  triples-return known spot outcome gs = rw (map-append (λ (e : Spot D × Outcome D). triple_at ks e.0) known ((spot, outcome) ∷ [])) (append_assoc (known_triples known) (triple_at ks spot ∷ []) (open_triples gs))

  -- a body goes on behind a call that has its outcome
  pub stands-again : IsGrammar G → (lists : Listed) (f f' : Descent D) (spot : Spot D) (outcome : Outcome D) (before marks : List (Mark D)) → f'.spot ≡ f.spot → f'.left ≡ f.left → f'.handed.items ≡ f.handed.items → IsPair G (pair_at ks f.spot.pair) → Waiting A W G ks lists f before spot → HasOutcome A W G ks lists spot outcome
      → ((s : Stretch) (ms : List (Open D)) (ss : List Stretch) → IsTelling lists f.here s → AreOpen lists before ms → AreTold lists (tolds outcome) ss → IsTelling lists f'.here (beside s (get_or ss 0 nothing)) × AreOpen lists marks (woven_marks (downs_handed outcome.handed) (drop 1 ss) ++ ms))
      → Standing A W G ks lists f' marks
  stands-again g lists f f' spot outcome before marks same_spot same_left same_handed pair h ends entered =
      let w = h.walks in
      let m = open-term lists spot.down before w.ms w.marked in
      let k : RuleStates S = pair_at ks spot.pair in
      let e = entered w.s m.0 (cut A W (value_at G k.0) k.1 spot.down) w.telling m.2 ends.finished in
      record {
        notes = h.notes;
        noted = rw same_spot h.noted;
        within = rw same_left h.within;
        walks = rw (same_spot, same_left, same_handed) (walk-call A W G ks lists (pair_at ks f.spot.pair) f.spot.down f.handed.items g pair spot.pair (reverse (take f.left h.notes)) before marks f.here f'.here spot.down outcome w ends e.0 e.1);
      }

  pub fall-cost-begin : (f f' c : Descent D) (gs : List (Descent D)) (q : ℕ) → q < length G → q < (pair_at ks f.spot.pair).0 → f'.spot ≡ f.spot → f'.left < f.left → (pair_at ks c.spot.pair).0 ≡ q → c.left ≡ length (body_at G q)
      → fall_cost G ks c + sum_by (fall_cost G ks) (f' ∷ gs) < fall_cost G ks f + sum_by (fall_cost G ks) gs
  fall-cost-begin f f' c gs q there qr e less h n =
      let l : length (body_at G q) ≤ whole G = get_or-le-sum_by (λ (R : Rule). length R.body) G q no_rule there in
      let k = cost-lt (base G) (pair_at ks f.spot.pair).0 q f.left f'.left (length (body_at G q)) qr less (omega arith) in
      let s = sum_by-append (fall_cost G ks) (f' ∷ []) gs in
      let a : fall_cost G ks c ≡ length (body_at G q) * base G ^ q + 1 = rw (h, n) refl in
      let b : fall_cost G ks f' ≡ f'.left * base G ^ (pair_at ks f.spot.pair).0 + 1 = rw e refl in
      omega (arith, k, s, a, b)

  -- a body that goes on, behind a call of an earlier rule, costs less
  pub fall-cost-less : (f f' : Descent D) (q : ℕ) → q < (pair_at ks f.spot.pair).0 → f'.spot ≡ f.spot → f'.left < f.left → fall_cost G ks f' < fall_cost G ks f
  fall-cost-less f f' q qr e less =
      let k = cost-lt (base G) (pair_at ks f.spot.pair).0 q f.left f'.left 0 qr less (omega arith) in
      let b : fall_cost G ks f' ≡ f'.left * base G ^ (pair_at ks f.spot.pair).0 + 1 = rw e refl in
      omega (arith, k, b)

module _ {S D : Type 0} (A : Algebra S) (W : Downward S D) (G : List Rule) (known : List (RuleStates S × S)) (run : IsRun A G known) where
  -- the last pair of the table is the start's
  pub start-last : (pair_at (keys known) (length (keys known) - 1) ≡ (length G - 1, [])) × (0 < length (keys known))
  start-last =
      let st = run.start in
      let n : length (keys known) ≡ length st.0 + 1 = ap length st.1 ∙ length_push st.0 (length G - 1, []) in
      let i : length st.0 ≡ length (keys known) - 1 = omega arith in
      (ap (λ xs. pair_at xs (length (keys known) - 1)) st.1 ∙ get_or_push st.0 (length G - 1, []) (0, []) (length (keys known) - 1) i, omega arith)

  pub start-falls : IsGrammar G → (i : ℕ) (d : D) → i ≡ length (keys known) - 1 → d ≡ W.start → Falls S D A W G (pair_at (keys known) i).0 (pair_at (keys known) i).1 d
  start-falls g i d e f =
      let some = g.some in
      rw (e, f, start-last.0) (at_start (length G - 1) (omega arith))

  pub falls-start : IsGrammar G → (spot : Spot D) (n : ℕ) → spot.pair ≡ length (keys known) - 1 → spot.down ≡ W.start → n ≤ 2 * length (body_at G (pair_at (keys known) spot.pair).0) → FallsOnce A W G (triple_at (keys known) spot ∷ []) n
  falls-start g spot n e f le = record {
    met = all-one (λ (t : RuleStates S × D). Falls S D A W G t.0.0 t.0.1 t.1) (triple_at (keys known) spot) (start-falls g spot.pair spot.down e f);
    distinct = distinct-one (triple_at (keys known) spot);
    bound = omega arith;
  }

  pub pair-of : (i : ℕ) → i < length (keys known) → IsPair G (pair_at (keys known) i)
  pair-of i lt = All-get_or (IsPair G) (keys known) i (0, []) lt run.pairs

  -- the outcome of the start is one stretch: the whole's nodes and hits
  pub outcome-whole : IsGrammar G → (lists : Listed) (spot : Spot D) (outcome : Outcome D) → HasOutcome A W G (keys known) lists spot outcome → spot ≡ record { pair = length (keys known) - 1; down = W.start }
      → AreTold lists (tolds outcome) (record { nodes = nodes_in (value G); hits = found A W (value G) } ∷ [])
  outcome-whole g lists spot outcome h e =
      let some = g.some in
      let k : pair_at (keys known) spot.pair ≡ (length G - 1, []) = ap (λ (x : Spot D). pair_at (keys known) x.pair) e ∙ start-last.0 in
      let d : spot.down ≡ W.start = ap (λ (x : Spot D). x.down) e in
      let none : holes_of (value G) ≡ [] = value_at-linear G (length G - 1) g (omega arith) ∙ ap (λ n. holes 0 n) ((g.each (length G - 1) (omega arith)).shaped.start (omega arith)) in
      let c : cut A W (value_at G (pair_at (keys known) spot.pair).0) (pair_at (keys known) spot.pair).1 spot.down ≡ cut A W (value G) [] W.start = ap (λ (x : RuleStates S). cut A W (value_at G x.0) x.1 spot.down) k ∙ ap (cut A W (value G) []) d in
      rw (c, cut-whole A W (value G) [] W.start none) at h.finished

  -- what is told of the outermost body, on which no other waits, is told of the whole
  pub whole-told : IsGrammar G → (earlier lists : Listed) (first spot : Spot D) (frames : List (Descent D)) (mss : List (List (Mark D))) (outcome : Outcome D) → length frames ≡ 0 → AreWaiting A W G (keys known) earlier first (reverse frames) mss
      → spot ≡ first → HasOutcome A W G (keys known) lists spot outcome → Tells lists outcome.last (record { nodes = nodes_in (value G); hits = found A W (value G) })
  whole-told g earlier lists first spot frames mss outcome none waiting same h =
      let w : AreWaiting A W G (keys known) earlier first [] mss = rw (empty_reverse frames none) at waiting in
      let whole : Stretch = record { nodes = nodes_in (value G); hits = found A W (value G) } in
      let o = outcome-whole g lists spot outcome h (same ∙ w) in
      told-only lists (befores outcome.handed) outcome.last whole o

-- what the bodies that are read, the innermost and the next one, stand for is no larger than the whole
module _ {S D : Type 0} (A : Algebra S) (W : Downward S D) (G : List Rule) (ks : List (RuleStates S)) (g : IsGrammar G) (small : nodes_in (value G) < 2 ^ 63) where
  met-small : (t : RuleStates S × D) → Falls S D A W G t.0.0 t.0.1 t.1 → nodes_in (value_at G t.0.0) < 2 ^ 63
  met-small t f = let m = met-within G g A W t.0.0 t.0.1 t.1 f in omega (arith, m.1)

  pub frame-small : (known : List (RuleStates S × D)) (spot : Spot D) (rest : List (RuleStates S × D)) (n : ℕ) → FallsOnce A W G (known ++ triple_at ks spot ∷ rest) n → nodes_in (value_at G (pair_at ks spot.pair).0) < 2 ^ 63
  frame-small known spot rest n reads = met-small (triple_at ks spot) (all-at (λ (t : RuleStates S × D). Falls S D A W G t.0.0 t.0.1 t.1) known (triple_at ks spot) rest reads.met)

  pub outer-small : (known : List (RuleStates S × D)) (first : RuleStates S × D) (spot : Spot D) (rest : List (RuleStates S × D)) (n : ℕ) → FallsOnce A W G (known ++ first ∷ triple_at ks spot ∷ rest) n → nodes_in (value_at G (pair_at ks spot.pair).0) < 2 ^ 63
  outer-small known first spot rest n reads =
      let P : RuleStates S × D → Type 0 = λ t. Falls S D A W G t.0.0 t.0.1 t.1 in
      let later = All-tail P first (triple_at ks spot ∷ rest) (all-split P known (first ∷ triple_at ks spot ∷ rest) reads.met).1 in
      met-small (triple_at ks spot) (All-head P (triple_at ks spot) rest later)

module _ {S D : Type 0} (A : Algebra S) (W : Downward S D) (G : List Rule) (ks : List (RuleStates S)) where
  pub outcomes-more : (lists : Listed) (more : List (Vec Part Global)) (known : List (Spot D × Outcome D)) → All (λ e. HasOutcome A W G ks lists e.0 e.1) known → All (λ e. HasOutcome A W G ks (extended lists more) e.0 e.1) known
  outcomes-more lists more known h = All-weaker (λ (e : Spot D × Outcome D). HasOutcome A W G ks lists e.0 e.1) (λ (e : Spot D × Outcome D). HasOutcome A W G ks (extended lists more) e.0 e.1) (λ e k. outcome-more A W G ks lists more e.0 e.1 k) known h

  -- a spot among the bodies is not known
  pub spot-apart : (known : List (Spot D × Outcome D)) (spot : Spot D) (rest : List (RuleStates S × D)) → AllPairs (λ t u. t ≢ u) (known_triples A W G ks known ++ triple_at ks spot ∷ rest) → All (λ e. e.0 ≢ spot) known
  spot-apart known spot rest d =
      let a = distinct-apart (known_triples A W G ks known) (triple_at ks spot) rest d in
      let b = all-unmap (λ (e : Spot D × Outcome D). triple_at ks e.0) (λ (t : RuleStates S × D). t ≢ triple_at ks spot) known a in
      All-weaker (λ (e : Spot D × Outcome D). triple_at ks e.0 ≢ triple_at ks spot) (λ (e : Spot D × Outcome D). e.0 ≢ spot) (λ e n h. n (ap (triple_at ks) h)) known b
