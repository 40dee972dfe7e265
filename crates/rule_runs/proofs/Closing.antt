-- The calls of what a run upward has read are known.
use Rattle.std.proofs.Common.{◌≡◌, ◌≢◌, ℕ, ◌+◌, ◌-◌, ◌<◌, ◌≤◌, ◌⊎◌, inl, inr, List, [], ◌∷◌, ◌++◌, length, get_or, Some, slice_get, refl, sym, ap, ◌∙◌, arith, subst, All}
use Rattle.std.proofs.lemmas.List.Elements.{All-append, All-map, All-weaker}
use Rattle.std.proofs.lemmas.Bool.{cases_lt}
use Rattle.std.proofs.lemmas.List.{map-append}
use Rattle.rule_arena.specs.declared.label.Label.{Label}
use Rattle.rule_arena.specs.declared.label.Label.TheVariants.{Bottom, Call}
use Rattle.rule_arena.proofs.PreorderLemmas.{slice_get-left, slice_get-right}
use Rattle.slt_grammar.specs.Algebras.{Algebra}
use Rattle.slt_grammar.specs.Grammars.{body_at}
use Rattle.rule_runs.specs.Reached.{RuleStates, argument_states}
use Rattle.slt_grammar.specs.declared.rules.Rule.{Rule}
use Rattle.rule_runs.specs.declared.memo.Pair.{Pair}
use Rattle.rule_runs.specs.declared.frame.Frame.{Frame}
use Rattle.rule_runs.specs.Entries.{key_of}
use Rattle.rule_runs.specs.Risen.{keys, IsKnown, AreKnown}
use Rattle.rule_runs.specs.Frames.{AreKnownBut, AreAwaiting, IsClosing}
use Rattle.rule_runs.proofs.Lists.{all-get, all-one, slice_get-at}

module _ {S : Type 0} (known more : List (RuleStates S × S)) where
  pub known-more : (k : RuleStates S) → IsKnown known k → IsKnown (known ++ more) k
  known-more k h =
      let l = (slice_get-at (keys known) h.0 k k h.1).0 in
      (h.0, ap (λ ks. slice_get ks h.0) (map-append (λ (e : RuleStates S × S). e.0) known more) ∙ slice_get-left (keys known) (keys more) h.0 l ∙ h.1)

pub known-last : {S : Type 0} (known : List (RuleStates S × S)) (k : RuleStates S) (s : S) → IsKnown (known ++ (k, s) ∷ []) k
known-last known k s =
    (length (keys known) + 0, ap (λ ks. slice_get ks (length (keys known) + 0)) (map-append (λ e. e.0) known ((k, s) ∷ [])) ∙ slice_get-right (keys known) (k ∷ []) 0)

-- a pair that no entry has is not known
pub unknown : {S : Type 0} (known : List (RuleStates S × S)) (k : RuleStates S) → All (λ e. e.0 ≢ k) known → IsKnown known k → ⊥
unknown {S} known k n h = all-get (λ (q : RuleStates S). q ≢ k) (keys known) h.0 k (All-map (λ (q : RuleStates S). q ≢ k) (λ (e : RuleStates S × S). e.0) known n) h.1 refl

module _ {S : Type 0} (A : Algebra S) (G : List Rule) where
  pub are_known-more : (known more : List (RuleStates S × S)) (k : RuleStates S) (from : ℕ) → AreKnown A G known k from → AreKnown A G (known ++ more) k from
  are_known-more known more k from h = λ place q le e. known-more known more _ (h place q le e)

  -- behind a body there are no calls
  pub known-end : (known : List (RuleStates S × S)) (k : RuleStates S) (from : ℕ) → length (body_at G k.0) ≤ from → AreKnown A G known k from
  known-end known k from l = λ place q le e. absurd (let a = (slice_get-at (body_at G k.0) place (Call q) Bottom e).0 in omega arith)

  -- one place further to the front
  pub known-front : (known : List (RuleStates S × S)) (k : RuleStates S) (from : ℕ) (l : Label) → 0 < from → get_or (body_at G k.0) (from - 1) Bottom ≡ l → AreKnown A G known k from
      → ((q : ℕ) → l ≡ Call q → IsKnown known (q, argument_states A G q k.1 (body_at G k.0) (from - 1))) → AreKnown A G known k (from - 1)
  known-front known k from l some is h new = λ place q le e. by_place place q e (cases_lt place from) le
    where
      by_place : (place q : ℕ) → slice_get (body_at G k.0) place ≡ Some (Call q) → (place < from) ⊎ (from ≤ place) → from - 1 ≤ place → IsKnown known (q, argument_states A G q k.1 (body_at G k.0) place)
      by_place place q e (inl lt) le =
          let p : place ≡ from - 1 = omega arith in
          let c : l ≡ Call q = sym is ∙ ap (λ x. get_or (body_at G k.0) x Bottom) (sym p) ∙ (slice_get-at (body_at G k.0) place (Call q) Bottom e).1 in
          rw p (new q c)
      by_place place q e (inr ge) le = h place q ge e

  -- a body that stops at a call knows all calls but that one
  pub known-stops : (known : List (RuleStates S × S)) (k : RuleStates S) (from : ℕ) (but : RuleStates S) → 0 < from → AreKnown A G known k from
      → ((q : ℕ) → slice_get (body_at G k.0) (from - 1) ≡ Some (Call q) → (q, argument_states A G q k.1 (body_at G k.0) (from - 1)) ≡ but) → AreKnownBut A G known k (from - 1) but
  known-stops known k from but some h new = λ place q le e. by_place place q e (cases_lt place from) le
    where
      by_place : (place q : ℕ) → slice_get (body_at G k.0) place ≡ Some (Call q) → (place < from) ⊎ (from ≤ place) → from - 1 ≤ place
          → IsKnown known (q, argument_states A G q k.1 (body_at G k.0) place) ⊎ ((q, argument_states A G q k.1 (body_at G k.0) place) ≡ but)
      by_place place q e (inl lt) le =
          let p : place ≡ from - 1 = omega arith in
          inr (rw p (new q (rw p at e)))
      by_place place q e (inr ge) le = inl (h place q ge e)

  awaiting-more : (known more : List (RuleStates S × S)) (q : RuleStates S) (gs : List (Frame S)) → AreAwaiting A G known q gs → AreAwaiting A G (known ++ more) q gs
  awaiting-more known more q [] h = tt
  awaiting-more known more q (g ∷ gs) h =
      ((λ place r le e. by_case (q, tt) place r (h.0 place r le e)), awaiting-more known more (key_of g.pair) gs h.1)
    where
      by_case : RuleStates S × Unit {0} → (place r : ℕ) → (IsKnown known (r, argument_states A G r (key_of g.pair).1 (body_at G (key_of g.pair).0) place) ⊎ ((r, argument_states A G r (key_of g.pair).1 (body_at G (key_of g.pair).0) place) ≡ q))
          → IsKnown (known ++ more) (r, argument_states A G r (key_of g.pair).1 (body_at G (key_of g.pair).0) place) ⊎ ((r, argument_states A G r (key_of g.pair).1 (body_at G (key_of g.pair).0) place) ≡ q)
      by_case u place r (inl k) = inl (known-more known more _ k)
      by_case u place r (inr e) = inr e

  all-more : (known : List (RuleStates S × S)) (q : RuleStates S) (s : S) → All (λ k. AreKnown A G known k 0) (keys known) → AreKnown A G known q 0 → All (λ k. AreKnown A G (known ++ (q, s) ∷ []) k 0) (keys (known ++ (q, s) ∷ []))
  all-more known q s h n =
      let more : List (RuleStates S × S) = (q, s) ∷ [] in
      let a = All-weaker (λ (k : RuleStates S). AreKnown A G known k 0) (λ (k : RuleStates S). AreKnown A G (known ++ more) k 0) (λ k i. are_known-more known more k 0 i) (keys known) h in
      subst (λ (ks : List (RuleStates S)). All (λ (k : RuleStates S). AreKnown A G (known ++ more) k 0) ks) (sym (map-append (λ (e : RuleStates S × S). e.0) known more)) (All-append (λ (k : RuleStates S). AreKnown A G (known ++ more) k 0) (keys known) (q ∷ []) a (all-one (λ (k : RuleStates S). AreKnown A G (known ++ more) k 0) q (are_known-more known more q 0 n)))

  pub closing-begin : (known : List (RuleStates S × S)) (f f' c : Frame S) (gs : List (Frame S)) (pair : Pair S) → IsClosing A G known f gs → f'.pair ≡ f.pair → AreKnownBut A G known (key_of f'.pair) f'.left (key_of pair) → c.pair ≡ pair → c.left ≡ length (body_at G pair.rule)
      → IsClosing A G known c (f' ∷ gs)
  closing-begin known f f' c gs pair h same but e l = record {
    now = known-end known (key_of c.pair) c.left (rw (l, e) (omega arith));
    outer = rw e (but, rw same h.outer);
    all = h.all;
  }

  -- a body that was read to its root is known, and the body that waits for it goes on
  pub closing-return : (known : List (RuleStates S × S)) (f g : Frame S) (gs : List (Frame S)) (s : S) → IsClosing A G known f (g ∷ gs) → AreKnown A G known (key_of f.pair) 0
      → IsClosing A G (known ++ (key_of f.pair, s) ∷ []) g gs
  closing-return known f g gs s h n = record {
    now = λ place q le i. by_case place q (h.outer.0 place q le i);
    outer = awaiting-more known ((key_of f.pair, s) ∷ []) (key_of g.pair) gs h.outer.1;
    all = all-more known (key_of f.pair) s h.all n;
  }
    where
      by_case : (place q : ℕ) → (IsKnown known (q, argument_states A G q (key_of g.pair).1 (body_at G (key_of g.pair).0) place) ⊎ ((q, argument_states A G q (key_of g.pair).1 (body_at G (key_of g.pair).0) place) ≡ key_of f.pair))
          → IsKnown (known ++ (key_of f.pair, s) ∷ []) (q, argument_states A G q (key_of g.pair).1 (body_at G (key_of g.pair).0) place)
      by_case place q (inl k) = known-more known ((key_of f.pair, s) ∷ []) _ k
      by_case place q (inr e) = rw e (known-last known (key_of f.pair) s)

  pub closing-end : (known : List (RuleStates S × S)) (f : Frame S) (s : S) → IsClosing A G known f [] → AreKnown A G known (key_of f.pair) 0 → All (λ k. AreKnown A G (known ++ (key_of f.pair, s) ∷ []) k 0) (keys (known ++ (key_of f.pair, s) ∷ []))
  closing-end known f s h n = all-more known (key_of f.pair) s h.all n
