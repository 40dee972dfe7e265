-- Occurrences as they are kept by entries, and how many of a pattern there are.
use Rattle.std.proofs.Common.{◌≡◌, ◌≢◌, ◌<◌, ◌≤◌, ◌+◌, ◌⊎◌, inl, inr, ℕ, zero, suc, List, [], ◌∷◌, length, get_or, drop, Option, Some, None, slice_get, Bool, true, false, if◌then◌else◌, refl, ap, sym, ◌∙◌, subst, arith}
use Rattle.std.proofs.lemmas.Bool.{cases_eq}
use Rattle.std.proofs.lemmas.Option.{get_or_from_slice_get}
use Rattle.digram_index.specs.declared.patterns.Pattern.{Pattern}
use Rattle.digram_index.specs.declared.patterns.Mark.{Mark}
use Rattle.digram_index.specs.declared.patterns.Mark.TheVariants.{Bottom, Symbol, Call, Param}
use Rattle.digram_index.specs.contracts.patterns.PatternPartialEq.TheImpl as eqs
use Rattle.digram_index.specs.Patterns.{ArePatterns}
use Rattle.digram_index.specs.Grouped.{IsAmong, AreDifferent, named_count}
use Rattle.digram_index.specs.Spots.{Spot, held_count, spot_count, upper_in, IsApartFrom, IsSpotOf, AreApartSpots, HasApartSpots, HasMembers, IsOften}
use Rattle.digram_index.specs.Entries.{no_pattern, pattern_at, spots_of, spot_from}
use Rattle.digram_index.proofs.Counting.{one_if, one-held, one-not, held-cons}
use Rattle.digram_index.proofs.PatternLemmas.{eq-sound, eq-same}

pub spot-at : (ps : List Pattern) (hs : List (Option ℕ)) (us : List ℕ) (k : ℕ) → get_or (spots_of ps hs us) k None ≡ spot_from ps (get_or hs k None) (get_or us k 0)
spot-at ps [] us k = refl
spot-at ps (None ∷ hs) us zero = refl
spot-at ps (Some e ∷ hs) us zero = refl
spot-at ps (None ∷ hs) [] (suc k) = spot-at ps hs [] k
spot-at ps (Some e ∷ hs) [] (suc k) = spot-at ps hs [] k
spot-at ps (None ∷ hs) (u ∷ us) (suc k) = spot-at ps hs us k
spot-at ps (Some e ∷ hs) (u ∷ us) (suc k) = spot-at ps hs us k

pub length-spots : (ps : List Pattern) (hs : List (Option ℕ)) (us : List ℕ) → length (spots_of ps hs us) ≡ length hs
length-spots ps [] us = refl
length-spots ps (None ∷ hs) us = ap suc (length-spots ps hs (drop 1 us))
length-spots ps (Some e ∷ hs) us = ap suc (length-spots ps hs (drop 1 us))

-- and so as many as before, where no item came or went
pub same-length : (ps ps' : List Pattern) (hs hs' : List (Option ℕ)) (us us' : List ℕ) → length hs' ≡ length hs → length (spots_of ps' hs' us') ≡ length (spots_of ps hs us)
same-length ps ps' hs hs' us us' e = length-spots ps' hs' us' ∙ e ∙ sym (length-spots ps hs us)

pub pattern-there : (ps : List Pattern) (e : ℕ) → e < length ps → slice_get ps e ≡ Some (pattern_at ps e)
pattern-there [] e h = absurd (omega arith)
pattern-there (p ∷ ps) zero h = refl
pattern-there (p ∷ ps) (suc e) h = pattern-there ps e (omega arith)

abbrev pub one_of : Bool → ℕ
one_of b = if b then 1 else 0

pub one-spot : Pattern → Pattern → ℕ
one-spot q p = if eqs.eq-value.it q p then 1 else 0

pub one-spot-same : (q p : Pattern) → q ≡ p → one-spot q p ≡ 1
unfolding one-spot
one-spot-same q p e = ap one_of (eq-same q p e)

pub one-spot-other : (q p : Pattern) → q ≢ p → one-spot q p ≡ 0
unfolding one-spot
one-spot-other q p n = at (eqs.eq-value.it q p) refl
  where
    at : (b : Bool) → eqs.eq-value.it q p ≡ b → one_of (eqs.eq-value.it q p) ≡ 0
    at true e = absurd (n (eq-sound q p e))
    at false e = ap one_of e

one-spot-is : (q p : Pattern) → one-spot q p ≡ one_of (eqs.eq-value.it q p)
unfolding one-spot
one-spot-is q p = refl

pub one-spot-few : (q p : Pattern) → one-spot q p ≤ 1
unfolding one-spot
one-spot-few q p = at (eqs.eq-value.it q p)
  where
    at : (b : Bool) → one_of b ≤ 1
    at true = omega arith
    at false = omega arith

pub spot-cons : (p : Pattern) (s : Spot) (ss : List (Option Spot)) → spot_count p (Some s ∷ ss) ≡ one-spot s.pattern p + spot_count p ss
unfolding one-spot
spot-cons p s ss = refl

-- the occurrences of a pattern are those of its entry
pub spot-count : (ps : List Pattern) (hs : List (Option ℕ)) (us : List ℕ) (e : ℕ) (p : Pattern) → ArePatterns ps → slice_get ps e ≡ Some p → ((k d : ℕ) → get_or hs k None ≡ Some d → d < length ps) → spot_count p (spots_of ps hs us) ≡ held_count e hs
spot-count ps [] us e p D h t = refl
spot-count ps (None ∷ hs) us e p D h t = spot-count ps hs (drop 1 us) e p D h (λ k d. t (suc k) d)
spot-count ps (Some d ∷ hs) us e p D h t =
    let n = spot-count ps hs (drop 1 us) e p D h (λ k f. t (suc k) f) in
    let s = spot-cons p (record { pattern = pattern_at ps d; upper = get_or us 0 0 }) (spots_of ps hs (drop 1 us)) in
    let c = held-cons e (Some d) hs in
    let o = at (cases_eq d e) in
    omega arith
  where
    at : (d ≡ e) ⊎ (d ≡ e → ⊥) → one-spot (pattern_at ps d) p ≡ one_if e (Some d)
    at (inl x) = one-spot-same (pattern_at ps d) p (ap (pattern_at ps) x ∙ get_or_from_slice_get ps e p no_pattern h) ∙ sym (one-held e (Some d) (ap Some x))
    at (inr x) = one-spot-other (pattern_at ps d) p (λ y. x (D d e p (pattern-there ps d (t 0 d refl) ∙ ap Some y) h)) ∙ sym (one-not e (Some d) (λ y. x (cc)))

pub no-spot-count : (ps : List Pattern) (hs : List (Option ℕ)) (us : List ℕ) (p : Pattern) → ((i : ℕ) → slice_get ps i ≢ Some p) → ((k d : ℕ) → get_or hs k None ≡ Some d → d < length ps) → spot_count p (spots_of ps hs us) ≡ 0
no-spot-count ps [] us p h t = refl
no-spot-count ps (None ∷ hs) us p h t = no-spot-count ps hs (drop 1 us) p h (λ k d. t (suc k) d)
no-spot-count ps (Some d ∷ hs) us p h t =
    let n = no-spot-count ps hs (drop 1 us) p h (λ k f. t (suc k) f) in
    let s = spot-cons p (record { pattern = pattern_at ps d; upper = get_or us 0 0 }) (spots_of ps hs (drop 1 us)) in
    let o = one-spot-other (pattern_at ps d) p (λ y. h d (pattern-there ps d (t 0 d refl) ∙ ap Some y)) in
    omega arith

pub mark_cases : (a b : Mark) → (a ≡ b) ⊎ (a ≢ b)
mark_cases Bottom Bottom = inl refl
mark_cases Bottom (Symbol g) = inr (λ e. cc)
mark_cases Bottom (Call q) = inr (λ e. cc)
mark_cases Bottom Param = inr (λ e. cc)
mark_cases (Symbol f) Bottom = inr (λ e. cc)
mark_cases (Symbol f) (Symbol g) = at (cases_eq f g)
  where
    at : (f ≡ g) ⊎ (f ≡ g → ⊥) → let L : Type 0 = Symbol f ≡ Symbol g in L ⊎ (L → ⊥)
    at (inl e) = inl (ap Symbol e)
    at (inr n) = inr (λ e. n (cc))
mark_cases (Symbol f) (Call q) = inr (λ e. cc)
mark_cases (Symbol f) Param = inr (λ e. cc)
mark_cases (Call p) Bottom = inr (λ e. cc)
mark_cases (Call p) (Symbol g) = inr (λ e. cc)
mark_cases (Call p) (Call q) = at (cases_eq p q)
  where
    at : (p ≡ q) ⊎ (p ≡ q → ⊥) → let L : Type 0 = Call p ≡ Call q in L ⊎ (L → ⊥)
    at (inl e) = inl (ap Call e)
    at (inr n) = inr (λ e. n (cc))
mark_cases (Call p) Param = inr (λ e. cc)
mark_cases Param Bottom = inr (λ e. cc)
mark_cases Param (Symbol g) = inr (λ e. cc)
mark_cases Param (Call q) = inr (λ e. cc)
mark_cases Param Param = inl refl

-- where a pattern is counted it has an occurrence
pub some-spot : (p : Pattern) (ss : List (Option Spot)) → 0 < spot_count p ss → (k : ℕ) × ((u : ℕ) × (get_or ss k None ≡ Some (record { pattern = p; upper = u })))
some-spot p [] h = absurd (omega arith)
some-spot p (None ∷ ss) h = let r = some-spot p ss h in (suc r.0, r.1)
some-spot p (Some s ∷ ss) h = at (some-spot p ss) (eqs.eq-value.it s.pattern p) refl
  where
    at : (0 < spot_count p ss → (k : ℕ) × ((u : ℕ) × (get_or ss k None ≡ Some (record { pattern = p; upper = u })))) → (b : Bool) → eqs.eq-value.it s.pattern p ≡ b → (k : ℕ) × ((u : ℕ) × (get_or (Some s ∷ ss) k None ≡ Some (record { pattern = p; upper = u })))
    at again true e = (0, (s.upper, let z = eq-sound s.pattern p e in ap (λ (q : Pattern). Some (record { pattern = q; upper = s.upper })) z))
    at again false e =
        let c = spot-cons p s ss in
        let o : one_of (eqs.eq-value.it s.pattern p) ≡ 0 = ap one_of e in
        let r = again (let x = one-spot-is s.pattern p in omega arith) in (suc r.0, r.1)

pub positive : (p : Pattern) (ss : List (Option Spot)) (k u : ℕ) → get_or ss k None ≡ Some (record { pattern = p; upper = u }) → 0 < spot_count p ss
positive p [] k u h = absurd (let z : None ≡ Some (record { pattern = p; upper = u }) = h in cc)
positive p (None ∷ ss) zero u h = absurd (let z : None ≡ Some (record { pattern = p; upper = u }) = h in cc)
positive p (Some s ∷ ss) zero u h =
    let z : s ≡ record { pattern = p; upper = u } = cc in
    let c = spot-cons p s ss in
    let o = one-spot-same s.pattern p (ap (λ (t : Spot). t.pattern) z) in
    omega arith
positive p (None ∷ ss) (suc k) u h = positive p ss k u h
positive p (Some s ∷ ss) (suc k) u h = let c = spot-cons p s ss in let n = positive p ss k u h in omega arith

-- one of those that are named
pub some-among : (os : List (Option ℕ)) → 0 < named_count os → (k : ℕ) × IsAmong k os
some-among [] h = absurd (omega arith)
some-among (None ∷ os) h = some-among os h
some-among (Some k ∷ os) h = (k, inl refl)

-- an occurrence of a pattern that is often
pub often-spot : (ss : List (Option Spot)) (least : ℕ) (p : Pattern) → 1 ≤ least → IsOften least p ss → (k : ℕ) × IsSpotOf ss p k
often-spot ss least p one O = at (mark_cases p.upper p.lower)
  where
    one-of : (n : ℕ) → 1 ≤ n → HasMembers ss p n → (k : ℕ) × IsSpotOf ss p k
    one-of n l H = let i = some-among H.0 (let h = H.1.1 in omega arith) in (i.0, H.1.0.members i.0 i.1)

    first-of : (ks : List ℕ) → AreApartSpots ss p ks → least ≤ length ks → (k : ℕ) × IsSpotOf ss p k
    first-of [] H l = absurd (omega arith)
    first-of (k ∷ ks) H l = (k, H.0)

    equal : HasMembers ss p 5 ⊎ HasApartSpots ss p least → (k : ℕ) × IsSpotOf ss p k
    equal (inl m) = one-of 5 (omega arith) m
    equal (inr T) = first-of T.0 T.1.0 T.1.1

    at : (p.upper ≡ p.lower) ⊎ (p.upper ≢ p.lower) → (k : ℕ) × IsSpotOf ss p k
    at (inl q) = equal (O.1 q)
    at (inr q) = one-of least one (O.0 q)

abbrev named : List ℕ → List (Option ℕ)
named [] = []
named (k ∷ ks) = Some k ∷ named ks

named-many : (ks : List ℕ) → named_count (named ks) ≡ length ks
named-many [] = refl
named-many (k ∷ ks) = ap suc (named-many ks)

not-named : (up : ℕ → ℕ) (a : ℕ) (ks : List ℕ) → IsApartFrom up a ks → IsAmong a (named ks) → ⊥
not-named up a [] A i = i
not-named up a (k ∷ ks) A (inl z) = A.0.lows z
not-named up a (k ∷ ks) A (inr i) = not-named up a ks A.1 i

-- occurrences of a pattern that share no node are different
apart-different : (ss : List (Option Spot)) (p : Pattern) (ks : List ℕ) → AreApartSpots ss p ks → AreDifferent (named ks)
apart-different ss p [] A = tt
apart-different ss p (k ∷ ks) A = (not-named (upper_in ss) k ks A.1.0, apart-different ss p ks A.1.1)

apart-spot : (ss : List (Option Spot)) (p : Pattern) (ks : List ℕ) → AreApartSpots ss p ks → (k : ℕ) → IsAmong k (named ks) → IsSpotOf ss p k
apart-spot ss p [] A k i = absurd i
apart-spot ss p (j ∷ ks) A k (inl z) = subst (λ m. IsSpotOf ss p m) (sym z) A.0
apart-spot ss p (j ∷ ks) A k (inr i) = apart-spot ss p ks A.1.1 k i

-- where so many share no node, a pattern is often
pub apart-often : (ss : List (Option Spot)) (least : ℕ) (p : Pattern) → HasApartSpots ss p least → IsOften least p ss
apart-often ss least p H = (
  λ _. (named H.0, (record { different = apart-different ss p H.0 H.1.0; members = apart-spot ss p H.0 H.1.0 }, let n = named-many H.0 in let m = H.1.1 in omega arith)),
  λ _. inr H,
)
