-- Indices keep what they tell of entries.
use Rattle.std.proofs.Common.{◌≡◌, ◌++◌, ◌<◌, ◌≤◌, ◌⊎◌, ◌∷◌, [], ℕ, zero, suc, Bool, true, false, List, Some, None, Option, Result, Ok, Err, OnOk, OnErr, Contains, get_or, length, slice_get, slice_set, refl, sym, ap, subst, ◌∙◌, inl, inr, arith, append_assoc, cond, is_ok}
use Rattle.std.specs.Map.{lookup}
use Rattle.std.specs.Cmp.{IsEquivalence}
use Rattle.std.proofs.lemmas.List.{length-append, append-nil}
use Rattle.std.proofs.lemmas.List.Elements.{Contains-append_left, Contains-push}
use Rattle.arrayvec.specs.ArrayVec.{ArrayVec}
use Rattle.rule_runs.specs.Tables.{places_at, Grows, IsFound, IsIndexed, StandsIn}

-- the places that are kept for a number
pub places-past : (first : List (ArrayVec ℕ)) (number : ℕ) → length first ≤ number → places_at first number ≡ []
places-past [] number l = refl
places-past (p ∷ ps) zero l = absurd (omega arith)
places-past (p ∷ ps) (suc number) l = places-past ps number (omega arith)

pub places-there : (first : List (ArrayVec ℕ)) (number : ℕ) (places : ArrayVec ℕ) → number < length first → places ≡ get_or first number places → places_at first number ≡ places.items
places-there [] number places l e = absurd (omega arith)
places-there (p ∷ ps) zero places l e = ap (λ (x : ArrayVec ℕ). x.items) (sym e)
places-there (p ∷ ps) (suc number) places l e = places-there ps number places (omega arith) e

places-set : (first : List (ArrayVec ℕ)) (number : ℕ) (places : ArrayVec ℕ) → number < length first → places_at (slice_set first number places) number ≡ places.items
places-set [] number places l = absurd (omega arith)
places-set (p ∷ ps) zero places l = refl
places-set (p ∷ ps) (suc number) places l = places-set ps number places (omega arith)

places-push : (first : List (ArrayVec ℕ)) (places : ArrayVec ℕ) → places_at (first ++ places ∷ []) (length first) ≡ places.items
places-push [] places = refl
places-push (p ∷ ps) places = places-push ps places

pub grows-trans : (a b c : List (ArrayVec ℕ)) → Grows a b → Grows b c → Grows a c
grows-trans a b c g h number =
    let p = g number in
    let q = h number in
    (p.0 ++ q.0, q.1 ∙ ap (λ xs. xs ++ q.0) p.1 ∙ append_assoc (places_at a number) p.0 q.0)

-- one more number
pub grows-push : (first : List (ArrayVec ℕ)) (places : ArrayVec ℕ) → Grows first (first ++ places ∷ [])
grows-push [] places zero = (places.items, refl)
grows-push [] places (suc number) = ([], refl)
grows-push (p ∷ ps) places zero = ([], sym (append-nil p.items))
grows-push (p ∷ ps) places (suc number) = grows-push ps places number

-- more places for one number
grows-set : (first : List (ArrayVec ℕ)) (at : ℕ) (places : ArrayVec ℕ) (more : List ℕ) → places.items ≡ places_at first at ++ more → Grows first (slice_set first at places)
grows-set [] at places more e number = ([], refl)
grows-set (p ∷ ps) zero places more e zero = (more, e)
grows-set (p ∷ ps) zero places more e (suc number) = ([], sym (append-nil (places_at ps number)))
grows-set (p ∷ ps) (suc at) places more e zero = ([], sym (append-nil p.items))
grows-set (p ∷ ps) (suc at) places more e (suc number) = grows-set ps at places more e number

-- a place that is the last of a new number's
pub push-there : (first : List (ArrayVec ℕ)) (number : ℕ) (places : ArrayVec ℕ) (before : List ℕ) (place : ℕ) → number ≡ length first → places.items ≡ before ++ place ∷ [] → Contains (places_at (first ++ places ∷ []) number) place
push-there first number places before place n e =
    subst (λ xs. Contains xs place) (sym (ap (places_at (first ++ places ∷ [])) n ∙ places-push first places ∙ e)) (Contains-push before place)

-- what `try_push` leaves
push-more : {T R : Type 0} (r : Result T R) (p p' : ArrayVec ℕ) (place : ℕ) → OnOk r (p'.items ≡ p.items ++ place ∷ []) → OnErr r (p' ≡ p) → (more : List ℕ) × (p'.items ≡ p.items ++ more)
push-more (Ok x) p p' place o e = (place ∷ [], o)
push-more (Err x) p p' place o e = ([], ap (λ (q : ArrayVec ℕ). q.items) e ∙ sym (append-nil p.items))

module _ {T R : Type 0} (r : Result T R) (first : List (ArrayVec ℕ)) (number place : ℕ) (p p' : ArrayVec ℕ) (there : number < length first) where
  pub grows-kept : (old : List (ArrayVec ℕ)) → Grows old first → p ≡ get_or first number p → OnOk r (p'.items ≡ p.items ++ place ∷ []) → OnErr r (p' ≡ p) → Grows old (slice_set first number p')
  grows-kept old g is o e =
      let m = push-more r p p' place o e in
      let k : p'.items ≡ places_at first number ++ m.0 = m.1 ∙ ap (λ xs. xs ++ m.0) (sym (places-there first number p there is)) in
      grows-trans old first (slice_set first number p') g (grows-set first number p' m.0 k)

  pub kept-there : is_ok r ≡ true → OnOk r (p'.items ≡ p.items ++ place ∷ []) → Contains (places_at (slice_set first number p') number) place
  kept-there t o = subst (λ xs. Contains xs place) (sym (places-set first number p' there ∙ pushed r t o)) (Contains-push p.items place)
    where
      pushed : (r : Result T R) → is_ok r ≡ true → OnOk r (p'.items ≡ p.items ++ place ∷ []) → p'.items ≡ p.items ++ place ∷ []
      pushed (Ok x) t o = o
      pushed (Err x) t o = absurd (cc)

  pub kept-full : (few : ℕ) → is_ok r ≡ false → OnErr r (p' ≡ p) → OnErr r (length p.items ≡ few) → few ≤ length (places_at (slice_set first number p') number)
  kept-full few f e l = omega (arith, ap length (places-set first number p' there), full r f e l)
    where
      full : (r : Result T R) → is_ok r ≡ false → OnErr r (p' ≡ p) → OnErr r (length p.items ≡ few) → length p'.items ≡ few
      full (Ok x) f e l = absurd (cc)
      full (Err x) f e l = ap (λ (q : ArrayVec ℕ). length q.items) e ∙ l

cons-none : {X : Type 0} (b : Bool) (v : X) (r : Option X) → cond b (Some v) r ≡ None → (b ≡ false) × (r ≡ None)
cons-none true v r e = absurd (cc)
cons-none false v r e = (refl, e)

module _ {K X : Type 0} (test : K → Bool) where
  -- where no key passes, none does at any place
  fails-there : (es : List (K × X)) (place : ℕ) (k : K) (x : X) → lookup test es ≡ None → slice_get es place ≡ Some (k, x) → test k ≡ false
  fails-there [] place k x n at = absurd (cc)
  fails-there (e ∷ es) zero k x n at =
      let q : e ≡ (k, x) = cc in
      ap (λ (p : K × X). test p.0) (sym q) ∙ (cons-none (test e.0) e.1 (lookup test es) n).0
  fails-there (e ∷ es) (suc place) k x n at = fails-there es place k x (cons-none (test e.0) e.1 (lookup test es) n).1 at

  -- and the other way round
  none-passes : (es : List (K × X)) → ((place : ℕ) (k : K) (x : X) → slice_get es place ≡ Some (k, x) → test k ≡ false) → lookup test es ≡ None
  none-passes [] fails = refl
  none-passes (e ∷ es) fails = ap (λ b. cond b (Some e.1) (lookup test es)) (fails 0 e.0 e.1 refl) ∙ none-passes es (λ place. fails (suc place))

pub push-cases : {X : Type 0} (xs : List X) (y : X) (i : ℕ) (x : X) → slice_get (xs ++ y ∷ []) i ≡ Some x → (slice_get xs i ≡ Some x) ⊎ ((i ≡ length xs) × (y ≡ x))
push-cases [] y zero x e = inr (refl, (cc))
push-cases [] y (suc i) x e = absurd (cc)
push-cases (z ∷ zs) y zero x e = inl e
push-cases (z ∷ zs) y (suc i) x e = elim (push-cases zs y i x e) [ inl a ↦ inl a | inr p ↦ inr (ap suc p.0, p.1) ]

module _ {K : Type 0} (E : K → K → Bool) (number : K → ℕ) (few : ℕ) where
  -- where more places are kept
  pub found-grows : (old new : List (ArrayVec ℕ)) (others : List (K × ℕ)) (place : ℕ) (k : K) → Grows old new → IsFound E number few old others place k → IsFound E number few new others place k
  found-grows old new others place k g f =
      let p = g (number k) in
      let l : length (places_at old (number k)) ≤ length (places_at new (number k)) = omega (arith, length-append (places_at old (number k)) p.0, ap length p.1) in
      elim f [
        | inl c ↦ inl (subst (λ xs. Contains xs place) (sym p.1) (Contains-append_left (places_at old (number k)) p.0 place c))
        | inr s ↦ inr (omega (arith, s.0), s.1)
      ]

  -- where another place is named under another key
  pub found-other : IsEquivalence E → (first : List (ArrayVec ℕ)) (old new : List (K × ℕ)) (key again k : K) (named place : ℕ) → E key again ≡ true → E key k ≡ false
      → ((q : K) → lookup (E q) new ≡ cond (E again q) (Some named) (lookup (E q) old)) → IsFound E number few first old place k → IsFound E number few first new place k
  found-other laws first old new key again k named place same other u f =
      let e : E again k ≡ false = sym (laws.congr key again k same) ∙ other in
      elim f [
        | inl c ↦ inl c
        | inr s ↦ inr (s.0, u k ∙ ap (λ b. cond b (Some named) (lookup (E k) old)) e ∙ s.1)
      ]

  -- an equal key is found alike
  pub found-same : IsEquivalence E → ((a b : K) → E a b ≡ true → number a ≡ number b) → (first : List (ArrayVec ℕ)) (others : List (K × ℕ)) (place : ℕ) (key k : K) → E key k ≡ true
      → IsFound E number few first others place k → IsFound E number few first others place key
  found-same laws one first others place key k same f =
      let n : number k ≡ number key = sym (one key k same) in
      elim f [
        | inl c ↦ inl (subst (λ m. Contains (places_at first m) place) n c)
        | inr s ↦ inr (subst (λ m. few ≤ length (places_at first m)) n s.0, (λ j. lookup (λ z. laws.congr key k z same j) others) ∙ s.1)
      ]

  -- an index that finds what was found, but under a key that is not there
  pub indexed-keeps : (Stands : ℕ → K → Type 0) (first first' : List (ArrayVec ℕ)) (others others' : List (K × ℕ)) (key : K) → ((place : ℕ) (k : K) → Stands place k → E key k ≡ false)
      → ((place : ℕ) (k : K) → E key k ≡ false → IsFound E number few first others place k → IsFound E number few first' others' place k)
      → IsIndexed E number few Stands first others → IsIndexed E number few Stands first' others'
  indexed-keeps Stands first first' others others' key absent keeps t =
      record { finds = λ place k s. keeps place k (absent place k s) (t.finds place k s) }

  -- one entry more, whose place is found
  pub indexed-more : IsEquivalence E → ((a b : K) → E a b ≡ true → number a ≡ number b) → (Stands More : ℕ → K → Type 0) (first : List (ArrayVec ℕ)) (others : List (K × ℕ)) (key : K) (place : ℕ)
      → ((at : ℕ) (k : K) → More at k → Stands at k ⊎ ((at ≡ place) × (E k key ≡ true))) → IsFound E number few first others place key
      → IsIndexed E number few Stands first others → IsIndexed E number few More first others
  indexed-more laws one Stands More first others key place cases f t =
      record {
        finds = λ at k m.
            elim (cases at k m) [
              | inl s ↦ t.finds at k s
              | inr p ↦ subst (λ n. IsFound E number few first others n k) (sym p.0) (found-same laws one first others place k key p.1 f)
            ];
      }

module _ {K X : Type 0} (E : K → K → Bool) where
  -- no entry stands under a key that is nowhere
  pub stands-apart : (es now : List (K × X)) (key : K) → es ≡ now → lookup (E key) now ≡ None → (place : ℕ) (k : K) → StandsIn es place k → E key k ≡ false
  stands-apart es now key view none place k s = fails-there (E key) es place k s.0 (ap (lookup (E key)) view ∙ none) s.1

  -- an entry at the end
  pub stands-push : IsEquivalence E → (es : List (K × X)) (key : K) (value : X) (at : ℕ) (k : K) → StandsIn (es ++ (key, value) ∷ []) at k → StandsIn es at k ⊎ ((at ≡ length es) × (E k key ≡ true))
  stands-push laws es key value at k s =
      elim (push-cases es (key, value) at (k, s.0) s.1) [
        | inl a ↦ inl (s.0, a)
        | inr p ↦ inr (p.0, subst (λ y. E y key ≡ true) (ap (λ (e : K × X). e.0) p.1) (laws.refl key))
      ]

  -- a key that is nowhere where the index tells to look
  module _ (number : K → ℕ) (few : ℕ) (laws : IsEquivalence E) (one : (a b : K) → E a b ≡ true → number a ≡ number b) (es : List (K × X)) (first : List (ArrayVec ℕ)) (others : List (K × ℕ)) (key : K)
      (t : IsIndexed E number few (StandsIn es) first others) (apart : (place : ℕ) → IsFound E number few first others place key → (k : K) (x : X) → slice_get es place ≡ Some (k, x) → E key k ≡ false) where
    by : (place : ℕ) (k : K) (x : X) → slice_get es place ≡ Some (k, x) → (b : Bool) → E key k ≡ b → E key k ≡ false
    by place k x at true e = apart place (found-same E number few laws one first others place key k e (t.finds place k (x, at))) k x at
    by place k x at false e = e

    pub table-absent : lookup (E key) es ≡ None
    table-absent = none-passes (E key) es (λ place k x at. by place k x at (E key k) refl)
