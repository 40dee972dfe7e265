-- Whether a number is that of a node of a run.
use Rattle.std.proofs.Common.{◌≡◌, ◌⊎◌, inl, inr, ℕ, zero, suc, ◌+◌, List, Option, Some, None, refl, sym, ap, ◌∙◌, arith}
use Rattle.std.proofs.lemmas.Bool.{cases_eq}
use Rattle.rule_arena.specs.declared.key.Key.{Key}
use Rattle.slt_grammar.specs.Keyed.{KeyedRule, key_at}
use Rattle.digram_index.proofs.LevelLemmas.{same_some}
use Rattle.linked_edits.specs.Runs.{IsBetween, start_of}

-- a node at a place has this number
abbrev IsAt : List KeyedRule → ℕ → ℕ → Type 0
IsAt G p n = (key : Key) × ((key_at G (start_of G) p ≡ Some key) × (key.number ≡ n))

is-at : (G : List KeyedRule) (p n : ℕ) → IsAt G p n ⊎ (IsAt G p n → ⊥)
is-at G p n = by (key_at G (start_of G) p) refl
  where
    by : (o : Option Key) → key_at G (start_of G) p ≡ o → IsAt G p n ⊎ (IsAt G p n → ⊥)
    by None e = inr (λ (w : IsAt G p n). let z : None ≡ Some w.0 = sym e ∙ w.1.0 in cc)
    by (Some key) e = of (cases_eq key.number n)
      where
        of : (key.number ≡ n) ⊎ (key.number ≡ n → ⊥) → IsAt G p n ⊎ (IsAt G p n → ⊥)
        of (inl z) = inl (key, (e, z))
        of (inr d) = inr (λ (w : IsAt G p n). d (ap (λ (k : Key). k.number) (same_some key w.0 (sym e ∙ w.1.0)) ∙ w.1.1))

pub between : (G : List KeyedRule) (p d n : ℕ) → IsBetween G p d n ⊎ (IsBetween G p d n → ⊥)
between G p zero n = by (is-at G (p + 0) n)
  where
    by : IsAt G (p + 0) n ⊎ (IsAt G (p + 0) n → ⊥) → IsBetween G p 0 n ⊎ (IsBetween G p 0 n → ⊥)
    by (inl w) = inl (record { at = 0; key = w.0; few = omega arith; there = w.1.0; named = w.1.1 })
    by (inr d) = inr (λ (B : IsBetween G p 0 n). d (B.key, (let z : B.at ≡ 0 = omega (arith, B.few) in ap (λ j. key_at G (start_of G) (p + j)) (sym z) ∙ B.there, B.named)))
between G p (suc d) n = by (is-at G (p + suc d) n) (between G p d n)
  where
    by : IsAt G (p + suc d) n ⊎ (IsAt G (p + suc d) n → ⊥) → IsBetween G p d n ⊎ (IsBetween G p d n → ⊥) → IsBetween G p (suc d) n ⊎ (IsBetween G p (suc d) n → ⊥)
    by (inl w) b = inl (record { at = suc d; key = w.0; few = omega arith; there = w.1.0; named = w.1.1 })
    by (inr a) (inl B) = inl (record { at = B.at; key = B.key; few = omega (arith, B.few); there = B.there; named = B.named })
    by (inr a) (inr b) = inr none
      where
        none : IsBetween G p (suc d) n → ⊥
        none B = of (cases_eq B.at (suc d))
          where
            of : (B.at ≡ suc d) ⊎ (B.at ≡ suc d → ⊥) → ⊥
            of (inl z) = a (B.key, (ap (λ j. key_at G (start_of G) (p + j)) (sym z) ∙ B.there, B.named))
            of (inr z) = b (record { at = B.at; key = B.key; few = omega (arith, z, B.few); there = B.there; named = B.named })
