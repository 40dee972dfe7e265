-- Where bodies call rules.
use Rattle.std.proofs.Common.{◌≡◌, ℕ, zero, suc, ◌+◌, ◌<◌, ◌≤◌, Bool, true, false, if◌then◌else◌, eqb, List, [], ◌∷◌, length, Some, slice_get, refl, sym, ap, subst, arith, ◌⊎◌, inl, inr}
use Rattle.std.proofs.lemmas.Bool.{cases_lt, eqb-true}
use Rattle.std.proofs.lemmas.Bool.Decides.{nat_tests}
use Rattle.std.proofs.lemmas.List.Sums.{sum_by-cons}
use Rattle.rule_arena.specs.declared.label.Label.{Label}
use Rattle.rule_arena.specs.declared.label.Label.TheVariants.{Bottom, Symbol, Call, Param}
use Rattle.slt_grammar.specs.Bodies.{calls_in}
use Rattle.slt_grammar.specs.Grammars.{body_at, calls_of}
use Rattle.slt_grammar.specs.declared.rules.Rule.{Rule}

-- each call of a body has a property
abbrev pub AllCalls : (ℕ → Type 0) → List Label → Type 0
AllCalls P [] = Unit {0}
AllCalls P (Call q ∷ ls) = P q × AllCalls P ls
AllCalls P (l ∷ ls) = AllCalls P ls

pub call-at : (P : ℕ → Type 0) (ls : List Label) (place q : ℕ) → AllCalls P ls → slice_get ls place ≡ Some (Call q) → P q
call-at P [] place q h e = absurd (cc)
call-at P (Bottom ∷ ls) zero q h e = absurd (cc)
call-at P (Symbol f ∷ ls) zero q h e = absurd (cc)
call-at P (Param ∷ ls) zero q h e = absurd (cc)
call-at P (Call c ∷ ls) zero q h e = let same : c ≡ q = cc in subst P same h.0
call-at P (Bottom ∷ ls) (suc i) q h e = call-at P ls i q h e
call-at P (Symbol f ∷ ls) (suc i) q h e = call-at P ls i q h e
call-at P (Param ∷ ls) (suc i) q h e = call-at P ls i q h e
call-at P (Call c ∷ ls) (suc i) q h e = call-at P ls i q h.1 e

module _ (q : ℕ) where
  self : eqb q q ≡ true
  self = grind (arith, nat_tests)

  -- a call is counted
  counted-at : (ls : List Label) (i : ℕ) → slice_get ls i ≡ Some (Call q) → 1 ≤ calls_in q ls
  counted-at [] i e = absurd (cc)
  counted-at (Bottom ∷ ls) zero e = absurd (cc)
  counted-at (Symbol f ∷ ls) zero e = absurd (cc)
  counted-at (Param ∷ ls) zero e = absurd (cc)
  counted-at (Call c ∷ ls) zero e = let same : c ≡ q = cc in rw (same, self) (omega arith)
  counted-at (Bottom ∷ ls) (suc i) e = counted-at ls i e
  counted-at (Symbol f ∷ ls) (suc i) e = counted-at ls i e
  counted-at (Param ∷ ls) (suc i) e = counted-at ls i e
  counted-at (Call c ∷ ls) (suc i) e = omega (arith, counted-at ls i e)

  -- and a second one too
  twice-at : (ls : List Label) (i j : ℕ) → i < j → slice_get ls i ≡ Some (Call q) → slice_get ls j ≡ Some (Call q) → 2 ≤ calls_in q ls
  twice-at ls i zero l e k = absurd (omega arith)
  twice-at [] i (suc j) l e k = absurd (cc)
  twice-at (Bottom ∷ ls) zero (suc j) l e k = absurd (cc)
  twice-at (Symbol f ∷ ls) zero (suc j) l e k = absurd (cc)
  twice-at (Param ∷ ls) zero (suc j) l e k = absurd (cc)
  twice-at (Call c ∷ ls) zero (suc j) l e k = let same : c ≡ q = cc in rw (same, self) (omega (arith, counted-at ls j k))
  twice-at (Bottom ∷ ls) (suc i) (suc j) l e k = twice-at ls i j (omega arith) e k
  twice-at (Symbol f ∷ ls) (suc i) (suc j) l e k = twice-at ls i j (omega arith) e k
  twice-at (Param ∷ ls) (suc i) (suc j) l e k = twice-at ls i j (omega arith) e k
  twice-at (Call c ∷ ls) (suc i) (suc j) l e k = omega (arith, twice-at ls i j (omega arith) e k)

  -- a rule's calls are among all
  in-rule : (H : List Rule) (r : ℕ) → calls_in q (body_at H r) ≤ calls_of H q
  in-rule [] r = omega arith
  in-rule (R ∷ H) zero = omega (arith, sum_by-cons (λ (Q : Rule). calls_in q Q.body) R H)
  in-rule (R ∷ H) (suc r) = omega (arith, sum_by-cons (λ (Q : Rule). calls_in q Q.body) R H, in-rule H r)

  in-rules : (H : List Rule) (r s : ℕ) → r < s → calls_in q (body_at H r) + calls_in q (body_at H s) ≤ calls_of H q
  in-rules H r zero l = absurd (omega arith)
  in-rules [] r (suc s) l = omega arith
  in-rules (R ∷ H) zero (suc s) l = omega (arith, sum_by-cons (λ (Q : Rule). calls_in q Q.body) R H, in-rule H s)
  in-rules (R ∷ H) (suc r) (suc s) l = omega (arith, sum_by-cons (λ (Q : Rule). calls_in q Q.body) R H, in-rules H r s (omega arith))

  -- a rule that is called once is called at one place
  pub one-place : (H : List Rule) (r i s j : ℕ) → calls_of H q ≤ 1 → slice_get (body_at H r) i ≡ Some (Call q) → slice_get (body_at H s) j ≡ Some (Call q) → (r ≡ s) × (i ≡ j)
  one-place H r i s j few e k = by (cases_lt r s) (cases_lt s r)
    where
      places : r ≡ s → (i < j) ⊎ (j ≤ i) → (j < i) ⊎ (i ≤ j) → i ≡ j
      places same (inl l) m = let t = twice-at (body_at H r) i j l e (rw (← same) at k) in let b = in-rule H r in absurd (omega arith)
      places same (inr l) (inl m) = let t = twice-at (body_at H r) j i m (rw (← same) at k) e in let b = in-rule H r in absurd (omega arith)
      places same (inr l) (inr m) = omega arith

      by : (r < s) ⊎ (s ≤ r) → (s < r) ⊎ (r ≤ s) → (r ≡ s) × (i ≡ j)
      by (inl l) m = let b = in-rules H r s l in let x = counted-at (body_at H r) i e in let y = counted-at (body_at H s) j k in absurd (omega arith)
      by (inr l) (inl m) = let b = in-rules H s r m in let x = counted-at (body_at H r) i e in let y = counted-at (body_at H s) j k in absurd (omega arith)
      by (inr l) (inr m) = let same : r ≡ s = omega arith in (same, places same (cases_lt i j) (cases_lt j i))

  -- a rule that is called is called somewhere
  called-in : (ls : List Label) → 0 < calls_in q ls → (i : ℕ) × (slice_get ls i ≡ Some (Call q))
  called-in [] h = absurd (omega arith)
  called-in (Bottom ∷ ls) h = let c = called-in ls h in (suc c.0, c.1)
  called-in (Symbol f ∷ ls) h = let c = called-in ls h in (suc c.0, c.1)
  called-in (Param ∷ ls) h = let c = called-in ls h in (suc c.0, c.1)
  called-in (Call c ∷ ls) h = by (eqb c q) refl (λ k. called-in ls k)
    where
      by : (b : Bool) → b ≡ eqb c q → (0 < calls_in q ls → (i : ℕ) × (slice_get ls i ≡ Some (Call q))) → (i : ℕ) × (slice_get (Call c ∷ ls) i ≡ Some (Call q))
      by true e later = (0, ap (λ x. Some (Call x)) (eqb-true c q (sym e)))
      by false e later =
          let n : ◌≡◌ {A = ℕ} (if eqb c q then 1 else 0) 0 = rw (← e) refl in
          let d = later (omega (arith, h, n)) in
          (suc d.0, d.1)

  pub called-at : (H : List Rule) → 0 < calls_of H q → (r : ℕ) × (i : ℕ) × (r < length H) × (slice_get (body_at H r) i ≡ Some (Call q))
  called-at [] h = absurd (omega arith)
  called-at (R ∷ H) h = by (cases_lt 0 (calls_in q R.body)) (λ l. called-in R.body l) (λ l. called-at H l)
    where
      by : (0 < calls_in q R.body) ⊎ (calls_in q R.body ≤ 0) → (0 < calls_in q R.body → (i : ℕ) × (slice_get R.body i ≡ Some (Call q)))
          → (0 < calls_of H q → (r : ℕ) × (i : ℕ) × (r < length H) × (slice_get (body_at H r) i ≡ Some (Call q))) → (r : ℕ) × (i : ℕ) × (r < length (R ∷ H)) × (slice_get (body_at (R ∷ H) r) i ≡ Some (Call q))
      by (inl l) here later = let c = here l in (0, c.0, omega arith, c.1)
      by (inr l) here later =
          let d = later (omega (arith, h, l, sum_by-cons (λ (Q : Rule). calls_in q Q.body) R H)) in
          (suc d.0, d.1, (let k = d.2 in omega arith), d.3)
