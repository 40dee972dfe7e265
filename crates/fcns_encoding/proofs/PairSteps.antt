-- Pairs by their places, and bodies that are written label by label.
use Rattle.std.proofs.Common.{rules, nat_lt, ◌≡◌, ℕ, zero, suc, ◌+◌, ◌<◌, Bool, true, false, cond, List, [], ◌∷◌, length, drop, get_or, slice_get, Some, None, refl, ap, sym, ◌∙◌, subst, ◌⊎◌, inl, inr, arith}
use Rattle.std.specs.List.{IsDistinct, AllByRecursion, position_or_len}
use Rattle.std.specs.Map.Calls.{RetainsPairs}
use Rattle.std.specs.Map.{keys_of}
use Rattle.indexmap.specs.IndexMap.{insert_entry}
use Rattle.std.proofs.lemmas.Bool.{ltb-true, lt-ltb}
use Rattle.std.proofs.lemmas.List.Sums.{passes_at_first, position_or_len_is}
use Rattle.rule_arena.specs.declared.label.Label.{Label}
use Rattle.rule_arena.specs.declared.label.Label.TheVariants.{Bottom, Symbol, Call, Param}
use Rattle.fcns_encoding.specs.declared.pair_rules.Pair.{Pair}
use Rattle.fcns_encoding.specs.contracts.pair_rules.PairPartialEq.TheImpl.{eq-value}
use Rattle.fcns_encoding.specs.Pairs.{place_of, pair_before, paired, StandsAt, AreApart}
use Rattle.fcns_encoding.proofs.CellLemmas.{get_is, got_within, has_get}

pub same-pair : (p q : Pair) → eq-value.it p q ≡ true → p ≡ q
same-pair p q e = search rules

pub same-self : (p : Pair) → eq-value.it p p ≡ true
same-self p = search rules

-- a place that is found is that of the pair
pub place-told : (pairs : List Pair) (p : Pair) (i : ℕ) → place_of pairs p ≡ Some i → slice_get pairs i ≡ Some p
place-told pairs p i e = at (nat_lt (position_or_len (eq-value.it p) pairs) (length pairs)) refl
  where
    first : ℕ
    first = position_or_len (eq-value.it p) pairs

    at : (b : Bool) → nat_lt first (length pairs) ≡ b → slice_get pairs i ≡ Some p
    at true h =
        let low : first < length pairs = ltb-true _ _ h in
        let found : Some first ≡ Some i = sym (ap (λ b. cond b (Some first) None) h) ∙ e in
        let is : first ≡ i = cc in
        let here : p ≡ get_or pairs first p = same-pair p (get_or pairs first p) (passes_at_first (eq-value.it p) pairs p low) in
        ap (slice_get pairs) (sym is) ∙ has_get pairs first p low ∙ ap Some (sym here)
    at false h = absurd (let none : None ≡ Some i = sym (ap (λ b. cond b (Some first) None) h) ∙ e in cc)

-- no pair stands at two places
alone : (p : Pair) (qs : List Pair) (j : ℕ) → AllByRecursion (λ y. eq-value.it p y ≡ false) qs → slice_get qs j ≡ Some p → ⊥
alone p [] j a e = cc
alone p (q ∷ qs) zero a e = let same : q ≡ p = cc in let yes : eq-value.it p q ≡ true = ap (eq-value.it p) same ∙ same-self p in let no = a.0 in cc
alone p (q ∷ qs) (suc j) a e = alone p qs j a.1 e

one-place : (pairs : List Pair) → IsDistinct eq-value.it pairs → (i j : ℕ) (p : Pair) → slice_get pairs i ≡ Some p → slice_get pairs j ≡ Some p → i ≡ j
unfolding IsDistinct
one-place [] d i j p a b = absurd (cc)
one-place (q ∷ qs) d zero zero p a b = refl
one-place (q ∷ qs) d zero (suc j) p a b = let same : q ≡ p = cc in absurd (alone p qs j (subst (λ x. AllByRecursion (λ y. eq-value.it x y ≡ false) qs) same d.0) b)
one-place (q ∷ qs) d (suc i) zero p a b = let same : q ≡ p = cc in absurd (alone p qs i (subst (λ x. AllByRecursion (λ y. eq-value.it x y ≡ false) qs) same d.0) a)
one-place (q ∷ qs) d (suc i) (suc j) p a b = ap suc (one-place qs d.1 i j p a b)

-- distinct pairs are found at their places
pub apart : (pairs : List Pair) → IsDistinct eq-value.it pairs → AreApart pairs
apart pairs d i p e =
    let low = got_within pairs i p e in
    let is : position_or_len (eq-value.it p) pairs ≡ i = position_or_len_is (eq-value.it p) pairs i p (omega (arith, low)) before (λ h. ap (eq-value.it p) (get_is pairs i p p e) ∙ same-self p) in
    let within : nat_lt (position_or_len (eq-value.it p) pairs) (length pairs) ≡ true = ap (λ k. nat_lt k (length pairs)) is ∙ lt-ltb i (length pairs) low in
    ap (λ b. cond b (Some (position_or_len (eq-value.it p) pairs)) None) within ∙ ap Some is
  where
    before : (k : ℕ) → k < i → eq-value.it p (get_or pairs k p) ≡ false
    before k h = by (eq-value.it p (get_or pairs k p)) refl
      where
        by : (b : Bool) → eq-value.it p (get_or pairs k p) ≡ b → eq-value.it p (get_or pairs k p) ≡ false
        by false t = t
        by true t =
            let here : slice_get pairs k ≡ Some p = has_get pairs k p (omega (arith, h, got_within pairs i p e)) ∙ ap Some (sym (same-pair p (get_or pairs k p) t)) in
            absurd (omega (arith, h, one-place pairs d k i p here e))

-- what `retain` leaves was there
pub retained : {K X F : Type 0} (T : F → K → X → Bool → X → F → Type 0) (f : F) (es kept : List (K × X)) → RetainsPairs T f es kept
    → (i : ℕ) (k : K) → slice_get (keys_of kept) i ≡ Some k → (j : ℕ) × (slice_get (keys_of es) j ≡ Some k)
retained T f [] kept h i k e = absurd (let none : slice_get (keys_of kept) i ≡ None = ap (λ xs. slice_get (keys_of xs) i) h in cc)
retained {K} {X} T f (x ∷ es) kept h i k e = by h.0 i (λ j. retained T h.2 es h.3 h.5 j k) (sym (ap (λ xs. slice_get (keys_of xs) i) h.6) ∙ e)
  where
    by : (b : Bool) (i : ℕ) → ((j : ℕ) → slice_get (keys_of h.3) j ≡ Some k → (j' : ℕ) × (slice_get (keys_of es) j' ≡ Some k))
        → slice_get (keys_of (cond b ((x.0, h.1) ∷ h.3) h.3)) i ≡ Some k → (j : ℕ) × (slice_get (keys_of (x ∷ es)) j ≡ Some k)
    by true zero rest g = (0, g)
    by true (suc i) rest g = let w = rest i g in (suc w.0, w.1)
    by false i rest g = let w = rest i g in (suc w.0, w.1)

-- a key that an insert leaves was there, or is the one that was inserted
key-there : {X : Type 0} (es : List (Pair × X)) (p : Pair) (x : X) (i : ℕ) (q : Pair) → slice_get (keys_of (insert_entry eq-value.it es p x)) i ≡ Some q → (slice_get (keys_of es) i ≡ Some q) ⊎ (q ≡ p)
key-there [] p x zero q e = inr cc
key-there [] p x (suc i) q e = cc
key-there {X} (y ∷ ys) p x i q e = by (eq-value.it p y.0) i (λ j. key-there ys p x j q) e
  where
    by : (b : Bool) (i : ℕ) → ((j : ℕ) → slice_get (keys_of (insert_entry eq-value.it ys p x)) j ≡ Some q → (slice_get (keys_of ys) j ≡ Some q) ⊎ (q ≡ p))
        → slice_get (keys_of (cond b ((y.0, x) ∷ ys) (y ∷ insert_entry eq-value.it ys p x))) i ≡ Some q → (slice_get (keys_of (y ∷ ys)) i ≡ Some q) ⊎ (q ≡ p)
    by true i rest g = inl g
    by false zero rest g = inl g
    by false (suc i) rest g = rest i g

pub key-inserted : {X : Type 0} (es new : List (Pair × X)) (p : Pair) (x : X) → new ≡ insert_entry eq-value.it es p x → (i : ℕ) (q : Pair) → slice_get (keys_of new) i ≡ Some q → (slice_get (keys_of es) i ≡ Some q) ⊎ (q ≡ p)
key-inserted es new p x n i q e = key-there es p x i q (ap (λ xs. slice_get (keys_of xs) i) (sym n) ∙ e)

module _ (pairs : List Pair) (above : ℕ) where
  -- a pair that has a rule is one label
  pair-at : (p : Pair) (place at : ℕ) (ls : List Label) → slice_get ls at ≡ Some (Symbol p.symbol) → slice_get ls (suc at) ≡ Some (Call p.rule) → place_of pairs p ≡ Some place
      → paired pairs above (drop at ls) ≡ Call (above + place) ∷ paired pairs above (drop (suc (suc at)) ls)
  pair-at p place at [] e b h = cc
  pair-at p place zero (l ∷ []) e b h = cc
  pair-at p place zero (l ∷ m ∷ ls) e b h =
      let first : l ≡ Symbol p.symbol = cc in
      let second : m ≡ Call p.rule = cc in
      ap (λ x. paired pairs above (x ∷ m ∷ ls)) first ∙ ap (λ x. paired pairs above (Symbol p.symbol ∷ x ∷ ls)) second ∙ ap (λ o. pair_before o above p (paired pairs above ls)) h
  pair-at p place (suc at) (l ∷ ls) e b h = pair-at p place at ls e b h

  pub paired-pair : (p : Pair) (place at : ℕ) (ls : List Label) → StandsAt p ls at → place_of pairs p ≡ Some place → paired pairs above (drop at ls) ≡ Call (above + place) ∷ paired pairs above (drop (at + 2) ls)
  paired-pair p place at ls s h =
      let next : at + 1 ≡ suc at = omega arith in
      let behind : suc (suc at) ≡ at + 2 = omega arith in
      pair-at p place at ls s.0 (subst (λ k. slice_get ls k ≡ Some (Call p.rule)) next s.1) h ∙ ap (λ k. Call (above + place) ∷ paired pairs above (drop k ls)) behind

  -- any other label stays
  label-alone : (l : Label) (ls : List Label) → ((p : Pair) → l ≡ Symbol p.symbol → slice_get ls 0 ≡ Some (Call p.rule) → place_of pairs p ≡ None) → paired pairs above (l ∷ ls) ≡ l ∷ paired pairs above ls
  label-alone Bottom ls none = refl
  label-alone (Call q) ls none = refl
  label-alone Param ls none = refl
  label-alone (Symbol f) [] none = refl
  label-alone (Symbol f) (Bottom ∷ ls) none = refl
  label-alone (Symbol f) (Symbol g ∷ ls) none = refl
  label-alone (Symbol f) (Param ∷ ls) none = refl
  label-alone (Symbol f) (Call q ∷ ls) none =
      let p : Pair = record { symbol = f; rule = q } in ap (λ o. pair_before o above p (paired pairs above ls)) (none p refl refl)

  label-at : (l : Label) (at : ℕ) (ls : List Label) → slice_get ls at ≡ Some l → ((p : Pair) → l ≡ Symbol p.symbol → slice_get ls (suc at) ≡ Some (Call p.rule) → place_of pairs p ≡ None)
      → paired pairs above (drop at ls) ≡ l ∷ paired pairs above (drop (suc at) ls)
  label-at l at [] e none = cc
  label-at l zero (m ∷ ls) e none = let first : m ≡ l = cc in ap (λ x. paired pairs above (x ∷ ls)) first ∙ label-alone l ls none
  label-at l (suc at) (m ∷ ls) e none = label-at l at ls e none

  pub paired-label : (at : ℕ) (ls : List Label) → at < length ls → ((p : Pair) → StandsAt p ls at → place_of pairs p ≡ None) → paired pairs above (drop at ls) ≡ get_or ls at Bottom ∷ paired pairs above (drop (at + 1) ls)
  paired-label at ls h none =
      let l : Label = get_or ls at Bottom in
      let here : slice_get ls at ≡ Some l = has_get ls at Bottom h in
      let next : suc at ≡ at + 1 = omega arith in
      label-at l at ls here (λ p e b. none p (here ∙ ap Some e, subst (λ k. slice_get ls k ≡ Some (Call p.rule)) next b)) ∙ ap (λ k. l ∷ paired pairs above (drop k ls)) next
