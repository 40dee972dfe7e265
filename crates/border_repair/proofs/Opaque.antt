-- What nodes weigh along rules of which some stay opaque.
use Rattle.std.proofs.Common.{◌≡◌, ◌⊎◌, inl, inr, ℕ, zero, suc, ◌+◌, ◌<◌, ◌≤◌, List, [], ◌∷◌, None, length, get_or, refl, ap, sym, subst, ◌∙◌, arith}
use Rattle.std.proofs.lemmas.Bool.{cases_lt}
use Rattle.rule_arena.specs.Preorder.{AreTerms}
use Rattle.rule_arena.specs.declared.label.Label.{Label}
use Rattle.slt_grammar.specs.Algebras.{meanings}
use Rattle.slt_grammar.specs.Bodies.{arity, params, CallsBelow}
use Rattle.slt_grammar.proofs.Meanings.{meanings-whole}
use Rattle.border_repair.specs.Weighing.{AreKnown, Scale, Above, hung, Weighed, weight_algebra, Rim, under, root_from, borders_from, arisen, called, rim_of, hung_all}
use Rattle.border_repair.proofs.RimLemmas.{IsRim, IsWhole, known-under, have-rims, alone, arisen-under, borders-under, body-whole, borders-many, weighs}

module _ (e : Scale) (ranks : List ℕ) (fs : List (List Weighed → Weighed)) (bodies : ℕ → List Label) (rims : ℕ → Rim) (ws : ℕ → ℕ) where
  abbrev pub F : ℕ → List Weighed → Weighed
  F k = get_or fs k (λ _. (weight_algebra e).bottom)

  -- a rule's rim and weight tell what it means
  pub record Told (k : ℕ) (rim : Rim) (w : ℕ) : Type 0 where
    pub is : IsRim e (get_or ranks k 0) (F k) rim w
    pub whole : IsWhole rim

  -- a rule means what its body means, and has its rim and weight
  pub record HasBody (k : ℕ) : Type 0 where
    pub earlier : CallsBelow k (bodies k)
    pub term : AreTerms (arity ranks) 1 (bodies k)
    pub linear : params (bodies k) ≡ get_or ranks k 0
    pub means : (args : List Weighed) → F k args ≡ get_or (meanings (weight_algebra e) ranks fs args (bodies k) []) 0 (weight_algebra e).bottom
    pub rim : rims k ≡ rim_of rims (bodies k)
    pub weight : ws k ≡ arisen rims e (None ∷ []) (bodies k) + called ws (bodies k)

  body-means : (k : ℕ) → HasBody k → ((q : ℕ) → q < k → Told q (rims q) (ws q)) → (c : Above) (kids : List Weighed) → length kids ≡ get_or ranks k 0
      → hung e c (F k kids).root + (F k kids).weight ≡ hung e c (root_from rims (bodies k)) + ((arisen rims e (None ∷ []) (bodies k) + called ws (bodies k)) + hung_all e (under c (borders_from rims (None ∷ []) (bodies k))) kids)
  body-means k h before c kids l =
      let A = weight_algebra e in
      let body = bodies k in
      let w = λ (q : ℕ) (b : q < k). (before q b).whole in
      let one = (meanings-whole A ranks fs 1 kids body [] h.term).1 in
      let all = weighs e ranks fs rims ws 1 body (c ∷ []) kids h.term (have-rims e ranks fs rims ws k (λ q b. (before q b).is) body h.earlier) refl (omega (arith, h.linear)) in
      let up = arisen-under rims k w e c body [] h.earlier in
      let side = ap (λ bs. hung_all e bs kids) (borders-under rims k w c body (None ∷ [])) in
      ap (λ m. hung e c m.root + m.weight) (h.means kids) ∙ alone e c (meanings A ranks fs kids body []) one ∙ omega (arith, all, up, side)

  next-told : (k : ℕ) → HasBody k → ((q : ℕ) → q < k → Told q (rims q) (ws q)) → Told k (rims k) (ws k)
  next-told k h before =
      let w = λ (q : ℕ) (b : q < k). (before q b).whole in
      let m = λ (q : ℕ) (b : q < k). (before q b).is.many in
      subst (λ (r : Rim). Told k r (ws k)) (sym h.rim) (subst (λ (n : ℕ). Told k (rim_of rims (bodies k)) n) (sym h.weight) (record {
        is = record {
          many = borders-many rims k w ranks 1 (bodies k) (None ∷ []) h.term refl m h.earlier ∙ h.linear;
          means = body-means k h before;
        };
        whole = body-whole rims k w ranks (bodies k) h.term m h.earlier;
      }))

  -- each rule has a body, or is told otherwise
  pub all-told : (n : ℕ) → ((k : ℕ) → k < n → HasBody k ⊎ Told k (rims k) (ws k)) → (q : ℕ) → q < n → Told q (rims q) (ws q)
  all-told zero h q b = absurd (omega arith)
  all-told (suc n) h q b = by_place (cases_lt q n) (all-told n (λ k l. h k (omega arith))) where
    by_kind : HasBody n ⊎ Told n (rims n) (ws n) → ((p : ℕ) → p < n → Told p (rims p) (ws p)) → Told n (rims n) (ws n)
    by_kind (inl x) ih = next-told n x ih
    by_kind (inr x) ih = x

    by_place : (q < n) ⊎ (n ≤ q) → ((p : ℕ) → p < n → Told p (rims p) (ws p)) → Told q (rims q) (ws q)
    by_place (inl c) ih = ih q c
    by_place (inr c) ih = let same : n ≡ q = omega arith in subst (λ p. Told p (rims p) (ws p)) same (by_kind (h n (omega arith)) ih)

-- an opaque rule: it shows a rim, its calls weigh something, and so does what hangs from them
abbrev pub opaque : Scale → Rim → ℕ → List Weighed → Weighed
opaque e rim each kids = record { root = rim.root; weight = each + hung_all e rim.borders kids }

pub opaque-told : (e : Scale) (rim : Rim) (n each : ℕ) → length rim.borders ≡ n → AreKnown rim.borders → IsRim e n (opaque e rim each) rim each
opaque-told e rim n each l k = record {
  many = l;
  means = λ c kids m. omega (arith, ap (λ bs. hung_all e bs kids) (known-under c rim.borders k));
}
