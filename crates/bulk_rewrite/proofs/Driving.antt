-- The steps of making rules.
use Rattle.std.proofs.Common.{◌≡◌, ◌≢◌, ℕ, ◌-◌, ◌<◌, ◌≤◌, List, [], ◌∷◌, ◌++◌, length, get_or, inl, inr, reverse, sum_by, Some, slice_get, refl, sym, ap, ◌∙◌, arith, subst, All, AllPairs}
use Rattle.std.proofs.lemmas.List.{map-append, length_push}
use Rattle.std.proofs.lemmas.List.Elements.{All-append, All-cons, All-get_or, All-head, All-nil, All-tail, All-weaker}
use Rattle.std.proofs.lemmas.Option.{slice_get_within}
use Rattle.std.proofs.lemmas.List.Sums.{sum_by-append}
use Rattle.rule_arena.specs.declared.label.Label.TheVariants.{Call}
use Rattle.slt_grammar.specs.Algebras.{Algebra}
use Rattle.slt_grammar.specs.Automata.{Downward}
use Rattle.slt_grammar.specs.Grammars.{IsGrammar, IsSwept, body_at}
use Rattle.slt_grammar.specs.declared.rules.Rule.{Rule}
use Rattle.rule_runs.specs.Descents.{triple_at}
use Rattle.rule_runs.specs.Notes.{AreKept, HasBody}
use Rattle.rule_runs.specs.Reached.{RuleStates, Falls}
use Rattle.rule_runs.specs.Risen.{IsPair, pair_at}
use Rattle.rule_runs.specs.declared.spots.Spot.{Spot}
use Rattle.rule_runs.proofs.Lists.{reverse-push, all-one, distinct-one}
use Rattle.bulk_rewrite.specs.Rewriting.{Rewriting, kept_count}
use Rattle.bulk_rewrite.specs.Making.{AreMade, AreMadeOnce, IsMade}
use Rattle.bulk_rewrite.specs.Frames.{triples, HasHanded, Standing, Asks, AreWaiting, frame_cost}
use Rattle.bulk_rewrite.proofs.Calls.{some-at, called-insert, called-right, calls-made, waits-calls}
use Rattle.bulk_rewrite.specs.UnderWay.{IsCalledBy, outer, done_triples, all_triples, AreTables, IsUnderWay, IsWhole, outer_cost, making_cost}
use Rattle.bulk_rewrite.specs.declared.frame.Frame.{Frame}
use Rattle.bulk_rewrite.specs.declared.making.Making.{Making}
use Rattle.bulk_rewrite.proofs.Waits.{get-last, waiting-more, stands-again, made-push, IsMet, open_triples, met-more, distinct-more, triples-return, frame-cost-begin}

module _ {S D : Type 0} (A : Algebra S) (W : Downward S D) (G : List Rule) (R : Rewriting D) (ks : List (RuleStates S)) where
  abbrev CalledBy : List (RuleStates S × D) → RuleStates S × D → Type 0
  CalledBy us t = IsCalledBy A W G R t us

  -- a body is begun, for which the innermost one waits
  pub opened : AllPairs (λ p q. p ≢ q) ks → (m m' : Making S D) (f' : Frame D) (spot : Spot D) → IsUnderWay A W G R ks m → Asks A W G R ks (done_triples ks m) m.frame spot f' → f'.spot ≡ m.frame.spot → All (λ e. e.0 ≢ spot) m.known
      → AreKept A G ks m'.bodies → ((i : ℕ) → HasBody m.bodies i → HasBody m'.bodies i) → HasBody m'.bodies spot.pair
      → m'.known ≡ m.known → m'.rules ≡ m.rules → m'.frames.items ≡ m.frames.items ++ f' ∷ [] → m'.frame.spot ≡ spot → ((ts : List (RuleStates S × D)) → Standing A W G R ks ts m'.frame) → IsUnderWay A W G R ks m'
  opened dk m m' f' spot way asks same new kept stays read ek er ef es stands =
      let t = way.tables in
      let gs : List (Frame D) = outer m in
      let ts : List (RuleStates S × D) = done_triples ks m in
      let e : outer m' ≡ f' ∷ gs = ap reverse ef ∙ reverse-push m.frames.items f' in
      let w : AreWaiting A W G R ks ts spot (f' ∷ gs) = (asks.waits, rw same asks.earlier, rw same t.there, rw same t.waiting) in
      let rest : List (RuleStates S × D) = triple_at ks m.frame.spot ∷ open_triples A W G R ks gs in
      let et : done_triples ks m' ≡ ts = ap (triples ks) ek in
      let c1 : All (CalledBy (ts ++ triple_at ks spot ∷ rest)) ts = All-weaker (CalledBy (ts ++ rest)) (CalledBy (ts ++ triple_at ks spot ∷ rest)) (λ t h. called-insert A W G R t ts (triple_at ks spot) rest h) ts t.called in
      let all : all_triples ks m' ≡ ts ++ (triple_at ks spot ∷ triple_at ks m.frame.spot ∷ open_triples A W G R ks gs) = rw (ek, es, e, same) refl in
      record {
        tables = record {
          kept = kept;
          outer_read = rw e (All-weaker (λ (f : Frame D). HasBody m.bodies f.spot.pair) (λ (f : Frame D). HasBody m'.bodies f.spot.pair) (λ f h. stays f.spot.pair h) (f' ∷ gs) (All-cons (λ (f : Frame D). HasBody m.bodies f.spot.pair) f' gs (rw same way.read) t.outer_read));
          there = rw es asks.there;
          waiting = rw (ek, es, e) w;
          hands = rw ek t.hands;
          made = rw (ek, er) t.made;
          met = subst (All (IsMet A W G R ks)) (sym all) (met-more A W G R ks ts m.known m.frame f' gs spot t.met asks);
          distinct = subst (AllPairs (λ t u. t ≢ u)) (sym all) (distinct-more A W G R ks dk ts m.known m.frame f' gs spot t.distinct t.waiting asks t.hands new);
          called = subst (λ us. All (CalledBy us) (done_triples ks m')) (sym all) (subst (λ xs. All (CalledBy (ts ++ triple_at ks spot ∷ rest)) xs) (sym et) c1);
        };
        read = rw es read;
        stands = stands (done_triples ks m');
      }

  -- its cost
  pub opened-less : (m m' : Making S D) (f' : Frame D) (spot : Spot D) → IsPair G (pair_at ks spot.pair) → Asks A W G R ks (done_triples ks m) m.frame spot f' → f'.spot ≡ m.frame.spot
      → m'.frames.items ≡ m.frames.items ++ f' ∷ [] → m'.frame.spot ≡ spot → m'.frame.left ≡ length (body_at G (pair_at ks spot.pair).0) → making_cost G ks m' < making_cost G ks m
  opened-less m m' f' spot pair asks same ef es cost =
      let e : outer m' ≡ f' ∷ outer m = ap reverse ef ∙ reverse-push m.frames.items f' in
      rw e (frame-cost-begin A W G R ks m.frame f' m'.frame (outer m) (pair_at ks spot.pair).0 pair.there asks.earlier same asks.fewer (ap (λ (s : Spot D). (pair_at ks s.pair).0) es) cost)

  -- the rule of the innermost body is made
  made-more : (m : Making S D) → IsPair G (pair_at ks m.frame.spot.pair) → IsWhole A W G R ks m
      → AreMade A W G R (done_triples ks m ++ triple_at ks m.frame.spot ∷ []) (m.rules ++ record { rank = kept_count R m.frame.handed.items; body = m.frame.body } ∷ [])
  made-more m pair whole =
      let k : RuleStates S = pair_at ks m.frame.spot.pair in
      let new : Rule = record { rank = kept_count R m.frame.handed.items; body = m.frame.body } in
      let made : IsMade A W G R (done_triples ks m) k m.frame.spot.down new = record { pair = pair; here = whole.here.here; body = whole.named; rank = ap (kept_count R) whole.here.are } in
      made-push A W G R ks (done_triples ks m) m.rules k m.frame.spot.down new whole.tables.made made

  pub closed : IsGrammar G → (m m' : Making S D) (below : Frame D) (rest : List (Frame D)) → IsPair G (pair_at ks m.frame.spot.pair) → IsWhole A W G R ks m → m.frames.items ≡ rest ++ below ∷ [] → m'.frames.items ≡ rest → m'.bodies ≡ m.bodies
      → m'.rules ≡ m.rules ++ record { rank = kept_count R m.frame.handed.items; body = m.frame.body } ∷ [] → m'.known ≡ m.known ++ (m.frame.spot, m.frame.handed.items) ∷ []
      → m'.frame.spot ≡ below.spot → m'.frame.left ≡ below.left → m'.frame.handed ≡ below.handed → m'.frame.body ≡ below.body ++ Call (length m.rules) ∷ [] → reverse m'.frame.opened.items ≡ m.frame.handed.items ++ reverse below.opened.items
      → IsUnderWay A W G R ks m'
  closed g m m' below rest pair whole ef ef' eb er ek es el eh ebody eo =
      let t = whole.tables in
      let spot : Spot D = m.frame.spot in
      let hands : List D = m.frame.handed.items in
      let ts : List (RuleStates S × D) = done_triples ks m in
      let gs : List (Frame D) = reverse rest in
      let q : RuleStates S × D = triple_at ks spot in
      let e : outer m ≡ below ∷ gs = ap reverse ef ∙ reverse-push rest below in
      let e' : outer m' ≡ gs = ap reverse ef' in
      let ets : done_triples ks m' ≡ ts ++ q ∷ [] = ap (triples ks) ek ∙ map-append (λ (e : Spot D × List D). triple_at ks e.0) m.known ((spot, hands) ∷ []) in
      let w0 : AreWaiting A W G R ks ts spot (below ∷ gs) = rw e at t.waiting in
      let w : AreWaiting A W G R ks (ts ++ q ∷ []) spot (below ∷ gs) = waiting-more A W G R ks ts (q ∷ []) spot (below ∷ gs) w0 in
      let at : slice_get (ts ++ q ∷ []) (length m.rules) ≡ Some q = rw t.made.many (get-last ts q) in
      let P : Frame D → Type 0 = λ f. HasBody m.bodies f.spot.pair in
      let H : Spot D × List D → Type 0 = λ e. HasHanded A W G R ks e.0 e.1 in
      let o : All P (below ∷ gs) = rw e at t.outer_read in
      let before : all_triples ks m ≡ ts ++ (q ∷ open_triples A W G R ks (below ∷ gs)) = rw e refl in
      let us : List (RuleStates S × D) = ts ++ (q ∷ open_triples A W G R ks (below ∷ gs)) in
      let c0 : All (CalledBy us) ts = subst (λ us. All (CalledBy us) ts) before t.called in
      let c1 : CalledBy us q = called-right A W G R q ts (q ∷ open_triples A W G R ks (below ∷ gs)) (inr (inl (waits-calls A W G R ks ts below spot w0.0 whole.here.here))) in
      let after : all_triples ks m' ≡ ts ++ (q ∷ open_triples A W G R ks (below ∷ gs)) = rw (ek, es, e') (triples-return A W G R ks m.known spot hands (open_triples A W G R ks (below ∷ gs))) in
      record {
        tables = record {
          kept = rw eb t.kept;
          outer_read = rw (e', eb) (All-tail P below gs o);
          there = rw es w.2;
          waiting = rw (ets, es, e') w.3;
          hands = rw ek (All-append H m.known ((spot, hands) ∷ []) t.hands (all-one H (spot, hands) whole.here));
          made = rw (ets, er) (made-more m pair whole);
          met = subst (All (IsMet A W G R ks)) (before ∙ sym after) t.met;
          distinct = subst (AllPairs (λ t u. t ≢ u)) (before ∙ sym after) t.distinct;
          called = subst (λ us. All (CalledBy us) (done_triples ks m')) (sym after) (subst (λ xs. All (CalledBy us) xs) (sym ets) (All-append (CalledBy us) ts (q ∷ []) c0 (all-one (CalledBy us) q c1)));
        };
        read = rw (es, eb) (All-head P below gs o);
        stands = rw ets (stands-again A W G R ks g (ts ++ q ∷ []) below m'.frame spot hands (length m.rules) w.0 whole.here at es el eh ebody eo);
      }

  pub closed-less : (m m' : Making S D) (below : Frame D) (rest : List (Frame D)) → m.frames.items ≡ rest ++ below ∷ [] → m'.frames.items ≡ rest → m'.frame.spot ≡ below.spot → m'.frame.left ≡ below.left → making_cost G ks m' ≤ outer_cost G ks m
  closed-less m m' below rest ef ef' es el =
      let e : outer m ≡ below ∷ reverse rest = ap reverse ef ∙ reverse-push rest below in
      let a : frame_cost G ks m'.frame ≡ frame_cost G ks below = rw (es, el) refl in
      let b : outer_cost G ks m' ≡ sum_by (frame_cost G ks) (reverse rest) = rw ef' refl in
      let c : outer_cost G ks m ≡ sum_by (frame_cost G ks) (below ∷ reverse rest) = rw e refl in
      let s = sum_by-append (frame_cost G ks) (below ∷ []) (reverse rest) in
      omega (arith, a, b, c, s)

  -- where no body waits, the rules with the last one are all
  pub finished : (m : Making S D) → IsPair G (pair_at ks m.frame.spot.pair) → pair_at ks (length ks - 1) ≡ (length G - 1, []) → IsWhole A W G R ks m → m.frames.items ≡ []
      → AreMadeOnce A W G R (m.rules ++ record { rank = kept_count R m.frame.handed.items; body = m.frame.body } ∷ [])
  finished m pair start whole none =
      let t = whole.tables in
      let ts : List (RuleStates S × D) = done_triples ks m in
      let q : RuleStates S × D = triple_at ks m.frame.spot in
      let e : outer m ≡ [] = ap reverse none in
      let all : all_triples ks m ≡ ts ++ q ∷ [] = rw e refl in
      let w : m.frame.spot ≡ record { pair = length ks - 1; down = W.start } = rw e at t.waiting in
      let last : q ≡ ((length G - 1, []), W.start) = ap (triple_at ks) w ∙ ap (λ (x : RuleStates S). (x, W.start)) start in
      record {
        triples = ts ++ q ∷ [];
        made = made-more m pair whole;
        met = subst (All (IsMet A W G R ks)) all t.met;
        distinct = subst (AllPairs (λ t u. t ≢ u)) all t.distinct;
        start = (ts, ap (λ (x : RuleStates S × D). ts ++ x ∷ []) last);
      }

  pub finished-swept : (m : Making S D) → IsPair G (pair_at ks m.frame.spot.pair) → IsWhole A W G R ks m → m.frames.items ≡ [] → IsSwept (m.rules ++ record { rank = kept_count R m.frame.handed.items; body = m.frame.body } ∷ [])
  finished-swept m pair whole none r less =
      let t = whole.tables in
      let ts : List (RuleStates S × D) = done_triples ks m in
      let q : RuleStates S × D = triple_at ks m.frame.spot in
      let e : outer m ≡ [] = ap reverse none in
      let all : all_triples ks m ≡ ts ++ q ∷ [] = rw e refl in
      let made = made-more m pair whole in
      let within : r < length ts = omega (arith, less, made.many, length_push ts q) in
      let u : RuleStates S × D = get_or ts r q in
      let c : All (CalledBy (ts ++ q ∷ [])) ts = subst (λ us. All (CalledBy us) ts) all t.called in
      calls-made A W G R (ts ++ q ∷ []) _ r u.0 u.1 made (subst (AllPairs (λ t u. t ≢ u)) all t.distinct) (some-at ts (q ∷ []) q r within) (All-get_or (CalledBy (ts ++ q ∷ [])) ts r q within c)

  -- only the start's body is begun
  pub begun : (m : Making S D) → 0 < length ks → m.known ≡ [] → m.rules ≡ [] → m.frames.items ≡ [] → m.frame.spot ≡ record { pair = length ks - 1; down = W.start }
      → Falls S D A W G (pair_at ks m.frame.spot.pair).0 (pair_at ks m.frame.spot.pair).1 m.frame.spot.down → AreKept A G ks m.bodies → HasBody m.bodies m.frame.spot.pair → ((ts : List (RuleStates S × D)) → Standing A W G R ks ts m.frame) → IsUnderWay A W G R ks m
  begun m some ek er ef es met kept read stands =
      let e : outer m ≡ [] = ap reverse ef in
      let et : done_triples ks m ≡ [] = ap (triples ks) ek in
      let q : RuleStates S × D = triple_at ks m.frame.spot in
      let all : all_triples ks m ≡ q ∷ [] = rw (ek, e) refl in
      let there : length ks - 1 < length ks = omega arith in
      let none : AreMade A W G R [] [] = record { many = refl; each = λ i k d h. let nil : List (RuleStates S × D) = [] in let n : i < length nil = slice_get_within nil i (k, d) h in absurd (omega arith) } in
      record {
        tables = record {
          kept = kept;
          outer_read = rw e (All-nil (λ (f : Frame D). HasBody m.bodies f.spot.pair));
          there = rw es there;
          waiting = rw e es;
          hands = rw ek (All-nil (λ (e : Spot D × List D). HasHanded A W G R ks e.0 e.1));
          made = rw (et, er) none;
          met = subst (All (IsMet A W G R ks)) (sym all) (all-one (IsMet A W G R ks) q met);
          distinct = subst (AllPairs (λ t u. t ≢ u)) (sym all) (distinct-one q);
          called = subst (λ xs. All (CalledBy (all_triples ks m)) xs) (sym et) (All-nil (CalledBy (all_triples ks m)));
        };
        read = read;
        stands = stands (done_triples ks m);
      }

  -- the innermost body is read to its end
  pub ended : (m m' : Making S D) → AreTables A W G R ks m → m'.bodies ≡ m.bodies → m'.known ≡ m.known → m'.rules ≡ m.rules → m'.frames.items ≡ m.frames.items → m'.frame.spot ≡ m.frame.spot → AreTables A W G R ks m'
  ended m m' t eb ek er ef es =
      let e : outer m' ≡ outer m = ap reverse ef in
      let et : done_triples ks m' ≡ done_triples ks m = ap (triples ks) ek in
      let all : all_triples ks m' ≡ all_triples ks m = rw (ek, e, es) refl in
      record {
        kept = rw eb t.kept;
        outer_read = rw (e, eb) t.outer_read;
        there = rw es t.there;
        waiting = rw (et, es, e) t.waiting;
        hands = rw ek t.hands;
        made = rw (et, er) t.made;
        met = subst (All (IsMet A W G R ks)) (sym all) t.met;
        distinct = subst (AllPairs (λ t u. t ≢ u)) (sym all) t.distinct;
        called = subst (λ us. All (CalledBy us) (done_triples ks m')) (sym all) (subst (λ xs. All (CalledBy (all_triples ks m)) xs) (sym et) t.called);
      }
