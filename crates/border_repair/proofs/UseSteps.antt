-- One more label of a body, whose calls are counted.
use Rattle.std.proofs.Common.{◌≡◌, ◌≢◌, ◌⊎◌, inl, inr, ℕ, ◌+◌, ◌*◌, ◌<◌, ◌≤◌, List, [], ◌∷◌, length, get_or, set, min, eqb, true, false, if◌then◌else◌, ap, sym, ◌∙◌, arith, get_or-set_same, get_or-set_other, length-set, zero-add}
use Rattle.std.proofs.lemmas.Bool.{cases_lt}
use Rattle.std.proofs.lemmas.Bool.Decides.{eqb_tells}
use Rattle.std.proofs.lemmas.List.{get_or_past}
use Rattle.rule_arena.specs.declared.label.Label.{Label}
use Rattle.rule_arena.specs.declared.label.Label.TheVariants.{Call}
use Rattle.slt_grammar.specs.Bodies.{calls_in}

-- the uses of a called rule grow, and those of the others stay
pub uses-called : (most t p q : ℕ) (us : List ℕ) (ls : List Label) (u : ℕ) → p < length us → u ≡ min (get_or us p 0 + t) most
    → min (get_or us q 0 + t * calls_in q (Call p ∷ ls)) most ≡ min (get_or (set us p u) q 0 + t * calls_in q ls) most
uses-called most t p q us ls u l e = by_test (eqb_tells p q) where
  grows : (v n : ℕ) → v ≡ min (get_or us p 0 + t) most → min (get_or us p 0 + t * (1 + n)) most ≡ min (v + t * n) most
  grows v n h = omega (arith, h)

  by_test : ((eqb p q ≡ true) × (p ≡ q)) ⊎ ((eqb p q ≡ false) × (p ≢ q)) → min (get_or us q 0 + t * ((if eqb p q then 1 else 0) + calls_in q ls)) most ≡ min (get_or (set us p u) q 0 + t * calls_in q ls) most
  by_test (inl x) =
      let here : get_or (set us p u) q 0 ≡ u = ap (λ k. get_or (set us p u) k 0) (sym x.1) ∙ get_or-set_same us p u 0 l in
      let was = ap (λ k. get_or us k 0) x.1 in
      rw (x.0, here, ← was) (grows u (calls_in q ls) e)
  by_test (inr x) =
      let ne : q ≢ p = λ h. x.1 (sym h) in
      let here : get_or (set us p u) q 0 ≡ get_or us q 0 = get_or-set_other us p q u 0 ne in
      rw (x.0, here) (ap (λ n. min (get_or us q 0 + t * n) most) (zero-add (calls_in q ls)))

-- what is beyond the list was not counted
pub uses-beyond : (most t p q : ℕ) (us : List ℕ) (ls : List Label) → q < length us → length us ≤ p
    → min (get_or us q 0 + t * calls_in q (Call p ∷ ls)) most ≡ min (get_or us q 0 + t * calls_in q ls) most
uses-beyond most t p q us ls l m = by_test (eqb_tells p q) where
  by_test : ((eqb p q ≡ true) × (p ≡ q)) ⊎ ((eqb p q ≡ false) × (p ≢ q)) → min (get_or us q 0 + t * ((if eqb p q then 1 else 0) + calls_in q ls)) most ≡ min (get_or us q 0 + t * calls_in q ls) most
  by_test (inl x) = absurd (omega arith)
  by_test (inr x) = rw x.0 (ap (λ n. min (get_or us q 0 + t * n) most) (zero-add (calls_in q ls)))

pub uses-end : (most t q : ℕ) (us : List ℕ) → get_or us q 0 ≤ most → min (get_or us q 0 + t * calls_in q []) most ≡ get_or us q 0
uses-end most t q us l = omega arith

pub set-fits : (most : ℕ) (us : List ℕ) (p q u : ℕ) → ((k : ℕ) → get_or us k 0 < most) → u < most → get_or (set us p u) q 0 < most
set-fits most us p q u h l = by_test (eqb_tells q p) where
  by_length : (p < length us) ⊎ (length us ≤ p) → q ≡ p → get_or (set us p u) q 0 < most
  by_length (inl b) e = let f : get_or (set us p u) q 0 ≡ u = ap (λ k. get_or (set us p u) k 0) e ∙ get_or-set_same us p u 0 b in omega arith
  by_length (inr b) e = let f : get_or (set us p u) q 0 ≡ 0 = get_or_past (set us p u) q 0 (simp length-set (omega arith)) in let g = h q in omega arith

  by_test : ((eqb q p ≡ true) × (q ≡ p)) ⊎ ((eqb q p ≡ false) × (q ≢ p)) → get_or (set us p u) q 0 < most
  by_test (inl x) = by_length (cases_lt p (length us)) x.1
  by_test (inr x) = let f = get_or-set_other us p q u 0 x.1 in let g = h q in omega arith
