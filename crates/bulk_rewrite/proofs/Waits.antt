-- Bodies that wait for one another, and the rules that are made meanwhile.
use Rattle.std.proofs.Common.{◌≡◌, ◌≢◌, ℕ, zero, suc, ◌+◌, ◌-◌, ◌*◌, ◌^◌, ◌<◌, ◌≤◌, List, [], ◌∷◌, ◌++◌, length, get_or, take, map, reverse, sum_by, Some, slice_get, ◌⊎◌, inl, inr, refl, ap, ◌∙◌, arith, append_assoc, All, AllPairs}
use Rattle.std.proofs.lemmas.List.{map-append, take-append-le, get_or_append_left, get_or_push, length_push}
use Rattle.std.proofs.lemmas.List.Elements.{All-append, All-cons, All-head, All-nil, All-tail, All-weaker}
use Rattle.std.proofs.lemmas.List.Sums.{get_or-le-sum_by, sum_by-append}
use Rattle.rule_arena.proofs.ListLemmas.{get-append}
use Rattle.rule_arena.specs.declared.label.Label.TheVariants.{Call}
use Rattle.slt_grammar.specs.Algebras.{Algebra}
use Rattle.slt_grammar.specs.Automata.{Downward}
use Rattle.slt_grammar.specs.Grammars.{IsGrammar, body_at, no_rule, whole}
use Rattle.slt_grammar.specs.declared.rules.Rule.{Rule}
use Rattle.rule_runs.specs.Descents.{triple_at}
use Rattle.rule_runs.specs.Frames.{base}
use Rattle.rule_runs.specs.Reached.{RuleStates, Falls}
use Rattle.rule_runs.specs.Risen.{pair_at}
use Rattle.rule_runs.specs.declared.spots.Spot.{Spot}
use Rattle.rule_runs.proofs.Handing.{linear}
use Rattle.rule_runs.proofs.Lists.{cost-lt, all-insert, all-unmap, distinct-insert, distinct-apart, one-place}
use Rattle.bulk_rewrite.specs.declared.frame.Frame.{Frame}
use Rattle.bulk_rewrite.specs.Frames.{triples, HasHanded, Standing, Waiting, Asks, AreWaiting, frame_cost}
use Rattle.bulk_rewrite.specs.Making.{IsMade, AreMade}
use Rattle.bulk_rewrite.specs.Rewriting.{Rewriting}
use Rattle.bulk_rewrite.proofs.Walking.{walk-more, walk-call}

-- the last of more items
pub get-last : {X : Type 0} (xs : List X) (x : X) → slice_get (xs ++ x ∷ []) (length xs) ≡ Some x
get-last [] x = refl
get-last (y ∷ xs) x = get-last xs x

only-item : {X : Type 0} (x y : X) (i : ℕ) → slice_get (x ∷ []) i ≡ Some y → (i ≡ 0) × (y ≡ x)
only-item x y zero e = (refl, cc)
only-item x y (suc i) e = absurd (cc)

module _ {S D : Type 0} (A : Algebra S) (W : Downward S D) (G : List Rule) (R : Rewriting D) (ks : List (RuleStates S)) where
  abbrev pub open_triples : List (Frame D) → List (RuleStates S × D)
  open_triples = map (λ f. triple_at ks f.spot)

  waits-more : (ts us : List (RuleStates S × D)) (f : Frame D) (spot : Spot D) → Waiting A W G R ks ts f spot → Waiting A W G R ks (ts ++ us) f spot
  waits-more ts us f spot w = record { notes = w.notes; noted = w.noted; within = w.within; here = w.here; walks = walk-more A W G R ks ts us _ _ _ _ _ _ w.walks }

  -- the bodies wait still where there are more rules
  pub waiting-more : (ts us : List (RuleStates S × D)) (spot : Spot D) (gs : List (Frame D)) → AreWaiting A W G R ks ts spot gs → AreWaiting A W G R ks (ts ++ us) spot gs
  waiting-more ts us spot [] w = w
  waiting-more ts us spot (g ∷ gs) w = (waits-more ts us g spot w.0, w.1, w.2, waiting-more ts us g.spot gs w.3)

  -- a body goes on behind a call that has its rule
  pub stands-again : IsGrammar G → (ts : List (RuleStates S × D)) (f f' : Frame D) (spot : Spot D) (hands : List D) (place : ℕ) → Waiting A W G R ks ts f spot → HasHanded A W G R ks spot hands → slice_get ts place ≡ Some (triple_at ks spot)
      → f'.spot ≡ f.spot → f'.left ≡ f.left → f'.handed ≡ f.handed → f'.body ≡ f.body ++ Call place ∷ [] → reverse f'.opened.items ≡ hands ++ reverse f.opened.items → Standing A W G R ks ts f'
  stands-again g ts f f' spot hands place w h at es el eh eb eo =
      let k : RuleStates S = pair_at ks f.spot.pair in
      let v = walk-call A W G R ks ts k f.spot.down (linear G g) spot.pair place (reverse (take f.left w.notes)) (reverse f.opened.items) spot.down f.body f.handed.items hands w.walks h at in
      record {
        notes = w.notes;
        noted = rw es w.noted;
        within = rw el w.within;
        here = rw es w.here;
        walks = rw (es, el, eh, eb, eo) v;
      }

  -- one rule more is made
  pub made-push : (ts : List (RuleStates S × D)) (H : List Rule) (k : RuleStates S) (d : D) (new : Rule) → AreMade A W G R ts H → IsMade A W G R ts k d new → AreMade A W G R (ts ++ (k, d) ∷ []) (H ++ new ∷ [])
  made-push ts H k d new m made = record {
    many = omega (arith, length_push H new, length_push ts (k, d), m.many);
    each = λ i q e at. by_place i q e (get-append ts ((k, d) ∷ []) i (q, e) at);
  }
    where
      by_place : (i : ℕ) (q : RuleStates S) (e : D) → ((i < length ts) × (slice_get ts i ≡ Some (q, e))) ⊎ ((length ts ≤ i) × (slice_get {X = RuleStates S × D} ((k, d) ∷ []) (i - length ts) ≡ Some (q, e))) → IsMade A W G R (take i (ts ++ (k, d) ∷ [])) q e (get_or (H ++ new ∷ []) i no_rule)
      by_place i q e (inl h) =
          let t : take i (ts ++ (k, d) ∷ []) ≡ take i ts = take-append-le i ts ((k, d) ∷ []) (omega (arith, h.0)) in
          let r : get_or (H ++ new ∷ []) i no_rule ≡ get_or H i no_rule = get_or_append_left H (new ∷ []) no_rule i (omega (arith, h.0, m.many)) in
          rw (t, r) (m.each i q e h.1)
      by_place i q e (inr h) =
          let o = only-item (k, d) (q, e) (i - length ts) h.1 in
          let z : i ≡ length ts = omega (arith, h.0, o.0) in
          let t : take i (ts ++ (k, d) ∷ []) ≡ ts = take-append-le i ts ((k, d) ∷ []) (omega arith) ∙ ap (λ n. take n ts) z ∙ take-whole ts in
          let r : get_or (H ++ new ∷ []) i no_rule ≡ new = get_or_push H new no_rule i (omega (arith, m.many)) in
          let a : q ≡ k = ap (λ (x : RuleStates S × D). x.0) o.1 in
          let b : e ≡ d = ap (λ (x : RuleStates S × D). x.1) o.1 in
          rw (t, r, a, b) made
        where
          take-whole : (xs : List (RuleStates S × D)) → take (length xs) xs ≡ xs
          take-whole [] = refl
          take-whole (x ∷ xs) = ap (λ ys. x ∷ ys) (take-whole xs)

  -- the rules of the outer bodies are later ones
  outer-later : (r : ℕ) (ts : List (RuleStates S × D)) (spot : Spot D) (gs : List (Frame D)) → r ≤ (pair_at ks spot.pair).0 → AreWaiting A W G R ks ts spot gs → All (λ g. r < (pair_at ks g.spot.pair).0) gs
  outer-later r ts spot [] h a = All-nil (λ (g : Frame D). r < (pair_at ks g.spot.pair).0)
  outer-later r ts spot (g ∷ gs) h a = let k = a.1 in All-cons (λ (g : Frame D). r < (pair_at ks g.spot.pair).0) g gs (omega arith) (outer-later r ts g.spot gs (omega arith) a.3)

  others-apart : (spot : Spot D) (gs : List (Frame D)) → All (λ g. (pair_at ks spot.pair).0 < (pair_at ks g.spot.pair).0) gs → All (λ t. t ≢ triple_at ks spot) (open_triples gs)
  others-apart spot [] e = All-nil (λ (t : RuleStates S × D). t ≢ triple_at ks spot)
  others-apart spot (g ∷ gs) e =
      let P : Frame D → Type 0 = λ g. (pair_at ks spot.pair).0 < (pair_at ks g.spot.pair).0 in
      let l = All-head P g gs e in
      All-cons (λ (t : RuleStates S × D). t ≢ triple_at ks spot) (triple_at ks g.spot) (open_triples gs) (λ h. let k : (pair_at ks g.spot.pair).0 ≡ (pair_at ks spot.pair).0 = ap (λ (t : RuleStates S × D). t.0.0) h in absurd (omega arith)) (others-apart spot gs (All-tail P g gs e))

  known-apart : AllPairs (λ p q. p ≢ q) ks → (spot : Spot D) → spot.pair < length ks → (known : List (Spot D × List D)) → All (λ e. HasHanded A W G R ks e.0 e.1) known → All (λ e. e.0 ≢ spot) known → All (λ t. t ≢ triple_at ks spot) (triples ks known)
  known-apart dk spot there [] h n = All-nil (λ (t : RuleStates S × D). t ≢ triple_at ks spot)
  known-apart dk spot there (e ∷ es) h n =
      let P : Spot D × List D → Type 0 = λ e. HasHanded A W G R ks e.0 e.1 in
      let N : Spot D × List D → Type 0 = λ e. e.0 ≢ spot in
      let first = All-head P e es h in
      All-cons (λ (t : RuleStates S × D). t ≢ triple_at ks spot) (triple_at ks e.0) (triples ks es)
      (λ q.
      let i : e.0.pair ≡ spot.pair = one-place ks e.0.pair spot.pair (0, []) dk first.there there (ap (λ (t : RuleStates S × D). t.0) q) in
      let d : e.0.down ≡ spot.down = ap (λ (t : RuleStates S × D). t.1) q in
      All-head N e es n (ap (λ (x : ℕ). record { pair = x; down = e.0.down }) i ∙ ap (λ (y : D). record { pair = spot.pair; down = y }) d))
      (known-apart dk spot there es (All-tail P e es h) (All-tail N e es n))

  abbrev pub IsMet : RuleStates S × D → Type 0
  IsMet t = Falls S D A W G t.0.0 t.0.1 t.1

  -- a spot that is met for the first time
  pub met-more : (ts : List (RuleStates S × D)) (known : List (Spot D × List D)) (f f' : Frame D) (gs : List (Frame D)) (spot : Spot D) → All IsMet (triples ks known ++ (triple_at ks f.spot ∷ open_triples gs)) → Asks A W G R ks ts f spot f'
      → All IsMet (triples ks known ++ (triple_at ks spot ∷ triple_at ks f.spot ∷ open_triples gs))
  met-more ts known f f' gs spot met asks = all-insert IsMet (triples ks known) (triple_at ks spot) (triple_at ks f.spot ∷ open_triples gs) asks.met met

  pub distinct-more : AllPairs (λ p q. p ≢ q) ks → (ts : List (RuleStates S × D)) (known : List (Spot D × List D)) (f f' : Frame D) (gs : List (Frame D)) (spot : Spot D)
      → AllPairs (λ t u. t ≢ u) (triples ks known ++ (triple_at ks f.spot ∷ open_triples gs)) → AreWaiting A W G R ks ts f.spot gs → Asks A W G R ks ts f spot f' → All (λ e. HasHanded A W G R ks e.0 e.1) known → All (λ e. e.0 ≢ spot) known
      → AllPairs (λ t u. t ≢ u) (triples ks known ++ (triple_at ks spot ∷ triple_at ks f.spot ∷ open_triples gs))
  distinct-more dk ts known f f' gs spot distinct waiting asks hands new =
      let q : RuleStates S × D = triple_at ks spot in
      let xs : List (RuleStates S × D) = triples ks known in
      let ys : List (RuleStates S × D) = triple_at ks f.spot ∷ open_triples gs in
      let e = asks.earlier in
      let later = outer-later (pair_at ks spot.pair).0 ts f.spot gs (omega arith) waiting in
      let apart : All (λ t. t ≢ q) (xs ++ ys) = All-append (λ (t : RuleStates S × D). t ≢ q) xs ys (known-apart dk spot asks.there known hands new) (others-apart spot (f ∷ gs) (All-cons (λ (g : Frame D). (pair_at ks spot.pair).0 < (pair_at ks g.spot.pair).0) f gs e later)) in
      distinct-insert xs q ys distinct apart

  -- a spot that has its rule moves from the bodies to the table
  pub triples-return : (known : List (Spot D × List D)) (spot : Spot D) (hands : List D) (rest : List (RuleStates S × D)) → triples ks (known ++ (spot, hands) ∷ []) ++ rest ≡ triples ks known ++ (triple_at ks spot ∷ rest)
  triples-return known spot hands rest = ap (λ xs. xs ++ rest) (map-append (λ (e : Spot D × List D). triple_at ks e.0) known ((spot, hands) ∷ [])) ∙ append_assoc (triples ks known) (triple_at ks spot ∷ []) rest

  -- a spot among the bodies is not known
  pub spot-apart : (known : List (Spot D × List D)) (spot : Spot D) (rest : List (RuleStates S × D)) → AllPairs (λ t u. t ≢ u) (triples ks known ++ triple_at ks spot ∷ rest) → All (λ e. e.0 ≢ spot) known
  spot-apart known spot rest d =
      let a = distinct-apart (triples ks known) (triple_at ks spot) rest d in
      let b = all-unmap (λ (e : Spot D × List D). triple_at ks e.0) (λ (t : RuleStates S × D). t ≢ triple_at ks spot) known a in
      All-weaker (λ (e : Spot D × List D). triple_at ks e.0 ≢ triple_at ks spot) (λ (e : Spot D × List D). e.0 ≢ spot) (λ e n h. n (ap (triple_at ks) h)) known b

  pub frame-cost-begin : (f f' c : Frame D) (gs : List (Frame D)) (q : ℕ) → q < length G → q < (pair_at ks f.spot.pair).0 → f'.spot ≡ f.spot → f'.left < f.left → (pair_at ks c.spot.pair).0 ≡ q → c.left ≡ length (body_at G q)
      → frame_cost G ks c + sum_by (frame_cost G ks) (f' ∷ gs) < frame_cost G ks f + sum_by (frame_cost G ks) gs
  frame-cost-begin f f' c gs q there qr e less h n =
      let l : length (body_at G q) ≤ whole G = get_or-le-sum_by (λ (R : Rule). length R.body) G q no_rule there in
      let k = cost-lt (base G) (pair_at ks f.spot.pair).0 q f.left f'.left (length (body_at G q)) qr less (omega arith) in
      let s = sum_by-append (frame_cost G ks) (f' ∷ []) gs in
      let a : frame_cost G ks c ≡ length (body_at G q) * base G ^ q + 1 = rw (h, n) refl in
      let b : frame_cost G ks f' ≡ f'.left * base G ^ (pair_at ks f.spot.pair).0 + 1 = rw e refl in
      omega (arith, k, s, a, b)

  -- a body that ends
  pub frame-cost-end : (f below below' : Frame D) (gs : List (Frame D)) → below'.spot ≡ below.spot → below'.left ≡ below.left → frame_cost G ks below' + sum_by (frame_cost G ks) gs < frame_cost G ks f + sum_by (frame_cost G ks) (below ∷ gs)
  frame-cost-end f below below' gs e n =
      let s = sum_by-append (frame_cost G ks) (below ∷ []) gs in
      let a : frame_cost G ks below' ≡ frame_cost G ks below = rw (e, n) refl in
      omega (arith, s, a)
