-- The table of a run upward: equal keys are those that are seen alike, and its entries stay as the list of states grows.
use Rattle.std.specs.Cmp.{IsEquivalence}
use Rattle.std.specs.Cmp.Lexicographic.{pointwise}
use Rattle.std.proofs.lemmas.Bool.{eqb-true, eq-eqb}
use Rattle.std.proofs.lemmas.List.{length-append, length-map, map-append}
use Rattle.std.proofs.lemmas.List.Elements.{All-append, All-head, All-tail, All-weaker}
use Rattle.std.proofs.lemmas.Option.{slice_get-get_or}
use Rattle.std.proofs.Common.{◌≡◌, ◌≢◌, ◌&&◌, ◌≤◌, ◌⊎◌, Bool, true, false, nat_eq, ℕ, List, [], ◌∷◌, ◌++◌, length, get_or, ◌+◌, slice_get, Some, refl, sym, ap, ◌∙◌, All, arith, subst, inl, inr, slice_range}
use Rattle.arrayvec.specs.ArrayVec.{ArrayVec}
use Rattle.rule_runs.specs.Reached.{RuleStates}
use Rattle.rule_runs.specs.declared.memo.Entry.{Entry}
use Rattle.rule_runs.specs.declared.memo.Pair.{Pair}
use Rattle.rule_runs.specs.Entries.{are_equal, key_of, entry_of, entries_of, IsEntryWithin, IsMemo, StandsAs}
use Rattle.rule_runs.specs.Tables.{IsFound, IsIndexed}
use Rattle.rule_runs.specs.Risen.{keys, pair_at}
use Rattle.rule_runs.proofs.Lists.{all-get, all-one, slice_get-at, slice_get-map}
use Rattle.rule_runs.proofs.Spans.{range-more, range-new, lies-more}
use Rattle.rule_runs.proofs.Tables.{indexed-keeps, indexed-more, push-cases}

pub both : (b c : Bool) → (b && c) ≡ true → (b ≡ true) × (c ≡ true)
both true c e = (refl, e)
both false c e = absurd (cc)

pub pointwise-same : {S : Type 0} (E : S → S → Bool) → ((a b : S) → E a b ≡ true → a ≡ b) → (xs ys : List S) → pointwise E xs ys ≡ true → xs ≡ ys
pointwise-same E same [] [] e = refl
pointwise-same E same [] (y ∷ ys) e = absurd (cc)
pointwise-same E same (x ∷ xs) [] e = absurd (cc)
pointwise-same E same (x ∷ xs) (y ∷ ys) e =
    let b = both (E x y) (pointwise E xs ys) e in
    let p = same x y b.0 in
    let q = pointwise-same E same xs ys b.1 in
    cc

pub pointwise-refl : {S : Type 0} (E : S → S → Bool) → ((a : S) → E a a ≡ true) → (xs : List S) → pointwise E xs xs ≡ true
pointwise-refl E same [] = refl
pointwise-refl E same (x ∷ xs) = rw (same x, pointwise-refl E same xs) refl

pub same-key : {S : Type 0} (E : S → S → Bool) → ((a b : S) → E a b ≡ true → a ≡ b) → (p q : Pair S) → are_equal E p q ≡ true → key_of p ≡ key_of q
same-key E same p q e =
    let b = both (nat_eq p.rule q.rule) (pointwise E p.states.items q.states.items) e in
    let r : p.rule ≡ q.rule = eqb-true p.rule q.rule b.0 in
    let s = pointwise-same E same p.states.items q.states.items b.1 in
    cc

pub key-same : {S : Type 0} (E : S → S → Bool) → ((a : S) → E a a ≡ true) → (p q : Pair S) → key_of p ≡ key_of q → are_equal E p q ≡ true
key-same {S} E same p q e =
    let r : p.rule ≡ q.rule = ap (λ (k : RuleStates S). k.0) e in
    let s : p.states.items ≡ q.states.items = ap (λ (k : RuleStates S). k.1) e in
    rw (r, s, eq-eqb q.rule q.rule refl, pointwise-refl E same q.states.items) refl

both-ways : (b c : Bool) → (b ≡ true → c ≡ true) → (c ≡ true → b ≡ true) → b ≡ c
both-ways true c f g = sym (f refl)
both-ways false true f g = g refl
both-ways false false f g = refl

pub pairs-equal : {S : Type 0} (E : S → S → Bool) → ((a b : S) → E a b ≡ true → a ≡ b) → ((a : S) → E a a ≡ true) → IsEquivalence (are_equal E)
pairs-equal E same again =
    record {
      refl = λ p. key-same E again p p refl;
      symm = λ p q. both-ways (are_equal E p q) (are_equal E q p) (λ e. key-same E again q p (sym (same-key E same p q e))) (λ e. key-same E again p q (sym (same-key E same q p e)));
      congr = λ p q r e. both-ways (are_equal E p r) (are_equal E q r) (λ f. key-same E again q r (sym (same-key E same p q e) ∙ same-key E same p r f)) (λ f. key-same E again p r (same-key E same p q e ∙ same-key E same q r f));
    }

-- equal pairs are of one rule
one-rule : {S : Type 0} (E : S → S → Bool) → ((a b : S) → E a b ≡ true → a ≡ b) → (p q : Pair S) → are_equal E p q ≡ true → p.rule ≡ q.rule
one-rule E same p q e = ap (λ (k : RuleStates _). k.0) (same-key E same p q e)

-- what stands at a place of a table
pub pair-there : {S : Type 0} (known : List (RuleStates S × S)) (i : ℕ) (k : RuleStates S) (x : S) → slice_get known i ≡ Some (k, x) → k ≡ pair_at (keys known) i
pair-there known i k x e = sym (slice_get-at (keys known) i k (0, []) (slice_get-map (λ e. e.0) known i (k, x) e)).1

pub nowhere-absent : {S : Type 0} (known : List (RuleStates S × S)) (k : RuleStates S) → ((i : ℕ) (x : S) → slice_get known i ≡ Some (k, x) → ⊥) → All (λ e. e.0 ≢ k) known
nowhere-absent {S} known k n = λ i d l h. let e : RuleStates S × S = get_or known i d in n i e.1 (slice_get-get_or known i d l ∙ ap (λ (v : RuleStates S). Some (v, e.1)) h)

module _ {S : Type 0} (E : S → S → Bool) where
  -- no entry stands under a key that is nowhere
  pub stands-apart : ((a b : S) → E a b ≡ true → a ≡ b) → (known now : List (RuleStates S × S)) (p : Pair S) → known ≡ now → All (λ e. e.0 ≢ key_of p) now → (place : ℕ) (k : Pair S) → StandsAs known place k → are_equal E p k ≡ false
  stands-apart same known now p view absent place k s = by (are_equal E p k) refl
    where
      by : (b : Bool) → are_equal E p k ≡ b → are_equal E p k ≡ false
      by false e = e
      by true e = absurd (all-get (λ (e : RuleStates S × S). e.0 ≢ key_of p) now place (key_of k, s.0) absent (ap (λ es. slice_get es place) (sym view) ∙ s.1) (sym (same-key E same p k e)))

  -- an entry at the end
  pub stands-push : ((a : S) → E a a ≡ true) → (known : List (RuleStates S × S)) (p : Pair S) (x : S) (at : ℕ) (k : Pair S) → StandsAs (known ++ (key_of p, x) ∷ []) at k → StandsAs known at k ⊎ ((at ≡ length known) × (are_equal E k p ≡ true))
  stands-push same known p x at k s =
      elim (push-cases known (key_of p, x) at (key_of k, s.0) s.1) [
        | inl a ↦ inl (s.0, a)
        | inr q ↦ inr (q.0, key-same E same k p (sym (ap (λ (e : RuleStates S × S). e.0) q.1)))
      ]

module _ {S : Type 0} (states more : List S) where
  -- no entry changes where states are put behind those of all
  pub entries-more : (es : List (Entry S)) → All (IsEntryWithin (length states)) es → entries_of (states ++ more) es ≡ entries_of states es
  entries-more [] h = refl
  entries-more (e ∷ es) h =
      let w = All-head (IsEntryWithin (length states)) e es h in
      ap (λ xs. ((e.rule, xs), e.state) ∷ entries_of (states ++ more) es) (range-more states more e.arguments.begin e.arguments.end w.0 w.1)
      ∙ ap (λ xs. entry_of states e ∷ xs) (entries-more es (All-tail (IsEntryWithin (length states)) e es h))

  -- one entry more, with the states that are put there
  pub entries-push : (new : List S) (es : List (Entry S)) (e : Entry S) → All (IsEntryWithin (length states)) es → new ≡ states ++ more → e.arguments.begin ≡ length states → e.arguments.end ≡ length new
      → entries_of new (es ++ e ∷ []) ≡ entries_of states es ++ ((e.rule, more), e.state) ∷ []
  entries-push new es e h n b end =
      let to : e.arguments.end ≡ length states + length more = omega (arith, end, ap length n, length-append states more) in
      let r : slice_range (states ++ more) e.arguments.begin e.arguments.end ≡ more = rw (b, to) (range-new states more) in
      ap (λ xs. entries_of xs (es ++ e ∷ [])) n
      ∙ map-append (entry_of (states ++ more)) es (e ∷ [])
      ∙ ap (λ xs. entries_of (states ++ more) es ++ ((e.rule, xs), e.state) ∷ []) r
      ∙ ap (λ xs. xs ++ ((e.rule, more), e.state) ∷ []) (entries-more es h)

-- entries lie within more states too
pub within-more : {S : Type 0} (es : List (Entry S)) (n m : ℕ) → n ≤ m → All (IsEntryWithin n) es → All (IsEntryWithin m) es
within-more {S} es n m le h = All-weaker (IsEntryWithin n) (IsEntryWithin m) (λ (e : Entry S) w. lies-more e.arguments n m le w) es h

pub within-push : {S : Type 0} (es : List (Entry S)) (e : Entry S) (n m : ℕ) → n ≤ m → e.arguments.begin ≡ n → e.arguments.end ≡ m → All (IsEntryWithin n) es → All (IsEntryWithin m) (es ++ e ∷ [])
within-push es e n m le b end h = All-append (IsEntryWithin m) es (e ∷ []) (within-more es n m le h) (all-one (IsEntryWithin m) e (omega arith, omega arith))

module _ {S : Type 0} (E : S → S → Bool) (same : (a b : S) → E a b ≡ true → a ≡ b) (few : ℕ) (states : List S) (es : List (Entry S)) (first : List (ArrayVec ℕ)) (others : List (Pair S × ℕ)) (m : IsMemo E few states es first others) where
  -- a place more is named, under a pair that is not there
  pub memo-named : (first' : List (ArrayVec ℕ)) (others' : List (Pair S × ℕ)) (now : List (RuleStates S × S)) (p : Pair S) → entries_of states es ≡ now → All (λ e. e.0 ≢ key_of p) now
      → ((place : ℕ) (k : Pair S) → are_equal E p k ≡ false → IsFound (are_equal E) (λ p. p.rule) few first others place k → IsFound (are_equal E) (λ p. p.rule) few first' others' place k)
      → IsMemo E few states es first' others'
  memo-named first' others' now p view absent keeps =
      let known : List (RuleStates S × S) = entries_of states es in
      record {
        within = m.within;
        indexed = indexed-keeps (are_equal E) (λ (p : Pair S). p.rule) few (StandsAs known) first first' others others' p (stands-apart E same known now p view absent) keeps m.indexed;
      }

  -- states more are put, and no entry
  pub memo-grows : (new more : List S) → new ≡ states ++ more → IsMemo E few new es first others
  memo-grows new more n =
      record {
        within = within-more es (length states) (length new) (omega (arith, ap length n, length-append states more)) m.within;
        indexed = subst (λ known. IsIndexed (are_equal E) (λ (p : Pair S). p.rule) few (StandsAs known) first others) (sym (ap (λ xs. entries_of xs es) n ∙ entries-more states more es m.within)) m.indexed;
      }

  -- an entry more, whose place is found
  pub memo-push : ((a : S) → E a a ≡ true) → (new : List S) (p : Pair S) (e : Entry S) → new ≡ states ++ p.states.items → e.rule ≡ p.rule → e.arguments.begin ≡ length states → e.arguments.end ≡ length new
      → IsFound (are_equal E) (λ p. p.rule) few first others (length es) p → IsMemo E few new (es ++ e ∷ []) first others
  memo-push again new p e n r b end f =
      let known : List (RuleStates S × S) = entries_of states es in
      let more : List S = p.states.items in
      let view : entries_of new (es ++ e ∷ []) ≡ known ++ (key_of p, e.state) ∷ [] = entries-push states more new es e m.within n b end ∙ ap (λ q. known ++ ((q, more), e.state) ∷ []) r in
      let count : length es ≡ length known = sym (length-map es (entry_of states)) in
      let found : IsFound (are_equal E) (λ (p : Pair S). p.rule) few first others (length known) p = subst (λ k. IsFound (are_equal E) (λ (p : Pair S). p.rule) few first others k p) count f in
      record {
        within = within-push es e (length states) (length new) (omega (arith, ap length n, length-append states more)) b end m.within;
        indexed = subst (λ known. IsIndexed (are_equal E) (λ (p : Pair S). p.rule) few (StandsAs known) first others) (sym view)
            (indexed-more (are_equal E) (λ (p : Pair S). p.rule) few (pairs-equal E same again) (one-rule E same) (StandsAs known) (StandsAs (known ++ (key_of p, e.state) ∷ [])) first others p (length known) (stands-push E again known p e.state) found m.indexed);
      }
