-- Chains of patterns that grow at their ends.
use Rattle.std.proofs.Common.{◌≡◌, ◌≢◌, ◌<◌, ◌≤◌, ◌+◌, ◌⊎◌, inl, inr, ℕ, suc, Bool, true, false, cond, not, List, [], ◌∷◌, ◌++◌, length, get_or, Option, Some, None, slice_get, refl, ap, sym, ◌∙◌, subst, arith}
use Rattle.std.proofs.lemmas.Bool.{cases_lt, cases_eq}
use Rattle.std.proofs.lemmas.Option.{slice_get_within}
use Rattle.rule_arena.proofs.PreorderLemmas.{slice_get-left}
use Rattle.digram_index.specs.CallChains.{CallsNumber, IsLatest, Chains, AreChained, place_from}
use Rattle.digram_index.specs.declared.patterns.Mark.{Mark}
use Rattle.digram_index.specs.declared.patterns.Mark.TheVariants.{Bottom, Symbol, Call, Param}
use Rattle.digram_index.specs.declared.patterns.Pattern.{Pattern}

pub length-pushed : (ps : List Pattern) (p : Pattern) → length (ps ++ p ∷ []) ≡ length ps + 1
length-pushed [] p = refl
length-pushed (x ∷ ps) p = omega (arith, length-pushed ps p)

pushed-there : (ps : List Pattern) (p : Pattern) → slice_get (ps ++ p ∷ []) (length ps) ≡ Some p
pushed-there [] p = refl
pushed-there (x ∷ ps) p = pushed-there ps p

pub calls-or-not : (m : Mark) (n : ℕ) → (m ≡ Call n) ⊎ (m ≢ Call n)
calls-or-not Bottom n = inr (λ e. cc)
calls-or-not (Symbol f) n = inr (λ e. cc)
calls-or-not (Call q) n = elim (cases_eq q n) [ inl e ↦ inl (ap Call e) | inr d ↦ inr (λ e. d (let z : Call q ≡ Call n = e in cc)) ]
calls-or-not Param n = inr (λ e. cc)

same-pattern : (p q : Pattern) → Some p ≡ Some q → p ≡ q
same-pattern p q e = cc

-- no pattern calls two rules
pub one-number : (ps : List Pattern) (m n e : ℕ) → CallsNumber ps m e → CallsNumber ps n e → m ≡ n
one-number ps m n e A B =
    let z : Call m ≡ Call n = sym A.lower ∙ ap (λ (p : Pattern). p.lower) (same-pattern A.pattern B.pattern (sym A.there ∙ B.there)) ∙ B.lower in
    cc

module _ (ps : List Pattern) (p : Pattern) where
  on : (n e : ℕ) → CallsNumber ps n e → CallsNumber (ps ++ p ∷ []) n e
  on n e C = record { pattern = C.pattern; there = slice_get-left ps (p ∷ []) e (slice_get_within ps e C.pattern C.there) ∙ C.there; lower = C.lower }

  back : (n e : ℕ) → e < length ps → CallsNumber (ps ++ p ∷ []) n e → CallsNumber ps n e
  back n e l C = record { pattern = C.pattern; there = sym (slice_get-left ps (p ∷ []) e l) ∙ C.there; lower = C.lower }

  own : (n e : ℕ) → length ps ≤ e → CallsNumber (ps ++ p ∷ []) n e → (e ≡ length ps) × (p.lower ≡ Call n)
  own n e l C =
      let w = slice_get_within (ps ++ p ∷ []) e C.pattern C.there in
      let q : e ≡ length ps = omega (arith, w, l, length-pushed ps p) in
      (q, ap (λ (x : Pattern). x.lower) (same-pattern p C.pattern (sym (pushed-there ps p) ∙ ap (slice_get (ps ++ p ∷ [])) (sym q) ∙ C.there)) ∙ C.lower)

  latest-on : (n k : ℕ) (o : Option ℕ) → k ≤ length ps → IsLatest ps n k o → IsLatest (ps ++ p ∷ []) n k o
  latest-on n k o h L = record {
    calls = λ e x. let c = L.calls e x in (c.0, on n e c.1);
    last = λ e l C. L.last e l (back n e (omega (arith, l, h)) C);
  }

  latest-passes : (n : ℕ) (o : Option ℕ) → p.lower ≢ Call n → IsLatest ps n (length ps) o → IsLatest (ps ++ p ∷ []) n (length (ps ++ p ∷ [])) o
  latest-passes n o d L = record {
    calls = λ e x. let c = L.calls e x in (omega (arith, c.0, length-pushed ps p), on n e c.1);
    last = λ e l C. elim (cases_lt e (length ps)) [
      | inl w ↦ L.last e w (back n e w C)
      | inr w ↦ absurd (d (own n e w C).1)
    ];
  }

  latest-new : (n : ℕ) → p.lower ≡ Call n → IsLatest (ps ++ p ∷ []) n (length (ps ++ p ∷ [])) (Some (length ps))
  latest-new n h = record {
    calls = λ e x. let q : length ps ≡ e = (let z : Some (length ps) ≡ Some e = x in cc) in (omega (arith, q, length-pushed ps p), subst (CallsNumber (ps ++ p ∷ []) n) q (record { pattern = p; there = pushed-there ps p; lower = h }));
    last = λ e l C. (length ps, (refl, omega (arith, l, length-pushed ps p)));
  }

  -- a pattern is put behind the others
  pub chained-pushed : (c d : Chains) → AreChained ps c
      → ((n : ℕ) → p.lower ≡ Call n → get_or d.latest n 0 ≡ length ps + 1)
      → ((n : ℕ) → p.lower ≡ Call n → get_or d.earlier (length ps) 0 ≡ get_or c.latest n 0)
      → ((n : ℕ) → p.lower ≢ Call n → get_or d.latest n 0 ≡ get_or c.latest n 0)
      → ((e : ℕ) → e ≢ length ps → get_or d.earlier e 0 ≡ get_or c.earlier e 0)
      → length d.earlier ≡ length c.earlier → length ps < length c.earlier → AreChained (ps ++ p ∷ []) d
  chained-pushed c d A here chained others kept len more = record {
    latest = λ n. elim (calls-or-not p.lower n) [
      | inl h ↦ subst (IsLatest (ps ++ p ∷ []) n (length (ps ++ p ∷ []))) (sym (ap place_from (here n h ∙ (let q : length ps + 1 ≡ suc (length ps) = omega arith in q)))) (latest-new n h)
      | inr h ↦ subst (λ (x : ℕ). IsLatest (ps ++ p ∷ []) n (length (ps ++ p ∷ [])) (place_from x)) (sym (others n h)) (latest-passes n (place_from (get_or c.latest n 0)) h (A.latest n))
    ];
    earlier = λ n e C. elim (cases_lt e (length ps)) [
      | inl l ↦ subst (λ (x : ℕ). IsLatest (ps ++ p ∷ []) n e (place_from x)) (sym (kept e (λ q. omega (arith, q, l)))) (latest-on n e (place_from (get_or c.earlier e 0)) (omega (arith, l)) (A.earlier n e (back n e l C)))
      | inr l ↦
          let o = own n e l C in
          subst (λ (x : ℕ). IsLatest (ps ++ p ∷ []) n x (place_from (get_or d.earlier x 0))) (sym o.0)
          (subst (λ (x : ℕ). IsLatest (ps ++ p ∷ []) n (length ps) (place_from x)) (sym (chained n o.1)) (latest-on n (length ps) (place_from (get_or c.latest n 0)) (omega arith) (A.latest n)))
    ];
    room = omega (arith, len, more, length-pushed ps p);
  }

-- a key that is new is put behind the others, and another changes nothing
pub pushed-new : (found is_new : Bool) (xs ys : List Pattern) (x : Pattern) → is_new ≡ not found → ys ≡ cond found xs (xs ++ x ∷ []) → is_new ≡ true → ys ≡ xs ++ x ∷ []
pushed-new true is_new xs ys x e h t = absurd (let z : true ≡ false = sym t ∙ e in cc)
pushed-new false is_new xs ys x e h t = h

pub pushed-old : (found is_new : Bool) (xs ys : List Pattern) (x : Pattern) → is_new ≡ not found → ys ≡ cond found xs (xs ++ x ∷ []) → is_new ≡ false → ys ≡ xs
pushed-old true is_new xs ys x e h t = h
pushed-old false is_new xs ys x e h t = absurd (let z : false ≡ true = sym t ∙ e in cc)

-- no patterns have no chains
pub chained-none : (c : Chains) → c.latest ≡ [] → AreChained [] c
chained-none c e = record {
  latest = λ n. subst (λ (ls : List ℕ). IsLatest [] n 0 (place_from (get_or ls n 0))) (sym e) (record { calls = λ k x. absurd (let z : None ≡ Some k = x in cc); last = λ k l C. absurd (omega (arith, l)) });
  earlier = λ n k C. absurd (let z : None ≡ Some C.pattern = C.there in cc);
  room = omega arith;
}

-- more room changes no chain
pub chained-grown : (ps : List Pattern) (c d : Chains) → AreChained ps c → ((n : ℕ) → get_or d.latest n 0 ≡ get_or c.latest n 0) → ((e : ℕ) → get_or d.earlier e 0 ≡ get_or c.earlier e 0)
    → length c.earlier ≤ length d.earlier → AreChained ps d
chained-grown ps c d A l e more = record {
  latest = λ n. subst (λ (x : ℕ). IsLatest ps n (length ps) (place_from x)) (sym (l n)) (A.latest n);
  earlier = λ n k C. subst (λ (x : ℕ). IsLatest ps n k (place_from x)) (sym (e k)) (A.earlier n k C);
  room = omega (arith, A.room, more);
}

-- how far a chain goes on from a link at most
abbrev pub length_of : Option ℕ → ℕ
length_of None = 0
length_of (Some e) = suc e

pub shorter : (ps : List Pattern) (n entry : ℕ) (latest : Option ℕ) → IsLatest ps n entry latest → length_of latest < suc entry
shorter ps n entry None L = omega arith
shorter ps n entry (Some e) L = omega (arith, (L.calls e refl).0)

-- the step along a chain passes nothing but the pattern that is left
pub passes-one : (ps : List Pattern) (n entry : ℕ) (latest : Option ℕ) → IsLatest ps n entry latest → (e : ℕ) → e ≢ entry → e ≤ entry → CallsNumber ps n e → (m : ℕ) × ((latest ≡ Some m) × (e ≤ m))
passes-one ps n entry latest L e d h C = elim (cases_lt e entry) [
  | inl l ↦ L.last e l C
  | inr l ↦ absurd (d (omega (arith, l, h)))
]

-- a pattern that calls a rule is there
pub within : (ps : List Pattern) (n e : ℕ) → CallsNumber ps n e → e < length ps
within ps n e C = slice_get_within ps e C.pattern C.there
