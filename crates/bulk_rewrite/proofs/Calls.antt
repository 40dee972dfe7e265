-- Each rule that is made is called.
use Rattle.std.proofs.Common.{◌≡◌, ◌≢◌, ℕ, zero, suc, ◌<◌, List, [], ◌∷◌, ◌++◌, length, get_or, take, reverse, Some, slice_get, false, inl, inr, refl, sym, ap, ◌∙◌, arith, subst, AllPairs}
use Rattle.std.proofs.lemmas.Bool.Decides.{nat_tests}
use Rattle.std.proofs.lemmas.List.Sums.{get_or-le-sum_by}
use Rattle.rule_arena.proofs.ListLemmas.{get-take}
use Rattle.rule_arena.specs.declared.label.Label.{Label}
use Rattle.rule_arena.specs.declared.label.Label.TheVariants.{Bottom, Symbol, Call, Param}
use Rattle.slt_grammar.specs.Algebras.{Algebra, ranks_of}
use Rattle.slt_grammar.specs.Automata.{Downward, handed}
use Rattle.slt_grammar.specs.Bodies.{calls_in}
use Rattle.slt_grammar.specs.Grammars.{body_at, value_at, calls_of, no_rule}
use Rattle.slt_grammar.specs.declared.rules.Rule.{Rule}
use Rattle.rule_runs.specs.Descents.{triple_at}
use Rattle.rule_runs.specs.Reached.{RuleStates, states_of}
use Rattle.rule_runs.specs.Risen.{pair_at}
use Rattle.rule_runs.specs.declared.spots.Spot.{Spot}
use Rattle.rule_runs.proofs.Lists.{slice_get-at, one-place}
use Rattle.rule_runs.proofs.NoteLemmas.{note-call}
use Rattle.bulk_rewrite.specs.Rewriting.{Rewriting, unless}
use Rattle.bulk_rewrite.specs.Making.{Made, MadeCall, making, IsNamed, AreNamed, AreMade}
use Rattle.bulk_rewrite.specs.Frames.{Waiting}
use Rattle.bulk_rewrite.specs.UnderWay.{HasCall, IsCalledBy}
use Rattle.bulk_rewrite.specs.declared.frame.Frame.{Frame}

called-first : (i : ℕ) (ls : List Label) → 0 < calls_in i (Call i ∷ ls)
called-first i ls = grind (arith, nat_tests)

called-behind : (i : ℕ) (l : Label) (ls : List Label) → 0 < calls_in i ls → 0 < calls_in i (l ∷ ls)
called-behind i Bottom ls h = h
called-behind i (Symbol f) ls h = h
called-behind i Param ls h = h
called-behind i (Call q) ls h = omega (arith, h)

pub some-at : {X : Type 0} (xs ys : List X) (d : X) (r : ℕ) → r < length xs → slice_get (xs ++ ys) r ≡ Some (get_or xs r d)
some-at [] ys d r h = absurd (omega arith)
some-at (x ∷ xs) ys d zero h = refl
some-at (x ∷ xs) ys d (suc r) h = some-at xs ys d r (omega arith)

module _ {S D : Type 0} where
  has-right : (t : RuleStates S × D) (ms ns : List (Made S D)) → HasCall t ns → HasCall t (ms ++ ns)
  has-right t [] ns h = h
  has-right t (m ∷ ms) ns h = inr (has-right t ms ns h)

  -- a call that is made is in the body
  named-has : (ts : List (RuleStates S × D)) (ms : List (Made S D)) (ls : List Label) (k : RuleStates S) (d : D) → AreNamed ts ms ls → HasCall (k, d) ms → (i : ℕ) × (0 < calls_in i ls) × (slice_get ts i ≡ Some (k, d))
  named-has ts [] ls k d n h = absurd h
  named-has ts (m ∷ ms) [] k d n h = absurd n
  named-has ts (m ∷ ms) (l ∷ ls) k d n (inl e) =
      let c : IsNamed ts (MadeCall k d) l = subst (λ (x : Made S D). IsNamed ts x l) e n.0 in
      (c.0, subst (λ (x : Label). 0 < calls_in c.0 (x ∷ ls)) (sym c.1) (called-first c.0 ls), c.2)
  named-has ts (m ∷ ms) (l ∷ ls) k d n (inr h) =
      let r = named-has ts ms ls k d n.1 h in
      (r.0, called-behind r.0 l ls r.1, r.2)

module _ {S D : Type 0} (A : Algebra S) (W : Downward S D) (G : List Rule) (R : Rewriting D) where
  pub called-insert : (t : RuleStates S × D) (xs : List (RuleStates S × D)) (z : RuleStates S × D) (ys : List (RuleStates S × D)) → IsCalledBy A W G R t (xs ++ ys) → IsCalledBy A W G R t (xs ++ z ∷ ys)
  called-insert t [] z ys h = inr h
  called-insert t (x ∷ xs) z ys (inl h) = inl h
  called-insert t (x ∷ xs) z ys (inr h) = inr (called-insert t xs z ys h)

  pub called-right : (t : RuleStates S × D) (xs ys : List (RuleStates S × D)) → IsCalledBy A W G R t ys → IsCalledBy A W G R t (xs ++ ys)
  called-right t [] ys h = h
  called-right t (x ∷ xs) ys h = inr (called-right t xs ys h)

  called-at : (t : RuleStates S × D) (us : List (RuleStates S × D)) → IsCalledBy A W G R t us → (j : ℕ) × (k : RuleStates S) × (d : D) × (slice_get us j ≡ Some (k, d)) × HasCall t (making A W G R k.1 (d ∷ []) (body_at G k.0))
  called-at t [] h = absurd h
  called-at t (u ∷ us) (inl h) = (0, u.0, u.1, refl, h)
  called-at t (u ∷ us) (inr h) = let r = called-at t us h in (suc r.0, r.1, r.2, r.3, r.4)

  -- the rule of a triple that is called
  pub calls-made : (ts : List (RuleStates S × D)) (H : List Rule) (r : ℕ) (k : RuleStates S) (d : D) → AreMade A W G R ts H → AllPairs (λ t u. t ≢ u) ts → slice_get ts r ≡ Some (k, d) → IsCalledBy A W G R (k, d) ts → 0 < calls_of H r
  calls-made ts H r k d m distinct at called =
      let c = called-at (k, d) ts called in
      let made = m.each c.0 c.1 c.2 c.3 in
      let n = named-has (take c.0 ts) (making A W G R c.1.1 (c.2 ∷ []) (body_at G c.1.0)) (body_at H c.0) k d made.body c.4 in
      let found : slice_get ts n.0 ≡ Some (k, d) = (get-take c.0 ts n.0 (k, d) n.2).1 in
      let a = slice_get-at ts n.0 (k, d) (k, d) found in
      let b = slice_get-at ts r (k, d) (k, d) at in
      let same : n.0 ≡ r = one-place ts n.0 r (k, d) distinct a.0 b.0 (a.1 ∙ sym b.1) in
      let there : c.0 < length H = (let l = (slice_get-at ts c.0 (c.1, c.2) (k, d) c.3).0 in omega (arith, l, m.many)) in
      let some : 0 < calls_in r (body_at H c.0) = subst (λ i. 0 < calls_in i (body_at H c.0)) same n.1 in
      let sum = get_or-le-sum_by (λ (Q : Rule). calls_in r Q.body) H c.0 no_rule there in
      omega (arith, some, sum)

  -- a body that waits calls what it waits for
  pub waits-calls : (ks : List (RuleStates S)) (ts : List (RuleStates S × D)) (f : Frame D) (spot : Spot D) → Waiting A W G R ks ts f spot → R.lost spot.down ≡ false
      → HasCall (triple_at ks spot) (making A W G R (pair_at ks f.spot.pair).1 (f.spot.down ∷ []) (body_at G (pair_at ks f.spot.pair).0))
  waits-calls ks ts f spot waiting lost =
      let w = waiting.walks in
      let d : D = spot.down in
      let ds : List D = reverse f.opened.items in
      let key : RuleStates S = pair_at ks f.spot.pair in
      let n = note-call A G ks w.args w.ls spot.pair (reverse (take f.left waiting.notes)) w.noted in
      let q : ℕ = n.0 in
      let behind : List Label = n.1 in
      let kids : List S = take (get_or (ranks_of G) q 0) (states_of A G w.args behind) in
      let k : pair_at ks spot.pair ≡ (q, kids) = (slice_get-at ks spot.pair (q, kids) (0, []) n.3).1 in
      let hs : List D = handed A W (value_at G q) kids d in
      let e : w.done ++ unless (R.lost d) (MadeCall (q, kids) d) (making A W G R w.args (hs ++ ds) behind) ≡ making A W G R key.1 (f.spot.down ∷ []) (body_at G key.0) = rw n.2 at w.whole in
      let h : w.done ++ (MadeCall (q, kids) d ∷ making A W G R w.args (hs ++ ds) behind) ≡ making A W G R key.1 (f.spot.down ∷ []) (body_at G key.0) = rw lost at e in
      let m : MadeCall (q, kids) d ≡ MadeCall (pair_at ks spot.pair) d = ap (λ (x : RuleStates S). MadeCall x d) (sym k) in
      subst (λ (xs : List (Made S D)). HasCall (triple_at ks spot) xs) h (has-right (triple_at ks spot) w.done (MadeCall (q, kids) d ∷ making A W G R w.args (hs ++ ds) behind) (inl m))
