-- The best of the edges so far.
use Rattle.std.proofs.Common.{◌≡◌, ◌⊎◌, inl, inr, ℕ, zero, suc, ◌<◌, ◌≤◌, List, [], ◌∷◌, length, Option, Some, None, MatchOption, slice_get, refl, ap, sym, subst, ◌∙◌, arith}
use Rattle.std.proofs.lemmas.Bool.{cases_lt}
use Rattle.slt_grammar.specs.declared.digram.Digram.{Digram}
use Rattle.border_repair.specs.Counted.{counted, counted_edge, digram_of}
use Rattle.border_repair.specs.Digrams.{IsCandidate, IsTop}
use Rattle.border_repair.specs.declared.edge.Edge.{Edge}
use Rattle.border_repair.proofs.EdgeLemmas.{as-edge, looked-up}

-- none of the first edges that are candidates was counted more often than this
pub record IsBest (es : List (Edge × ℕ)) (bound at most : ℕ) (top : Option Digram) : Type 0 where
  pub each : (k : ℕ) (x : Edge) (n : ℕ) → k < at → slice_get es k ≡ Some (x, n) → IsCandidate bound (digram_of x) → n ≤ most
  pub best : MatchOption top (most ≡ 0) (λ d. IsCandidate bound d × (counted es d ≡ most) × (0 < most))

pub best-start : (es : List (Edge × ℕ)) (bound : ℕ) → IsBest es bound 0 0 None
best-start es bound = record { each = λ k x n l. absurd (omega arith); best = refl }

module _ (es : List (Edge × ℕ)) (bound at : ℕ) (x : Edge) (n : ℕ) (here : slice_get es at ≡ Some (x, n)) where
  abbrev edge_in : Option (Edge × ℕ) → Edge
  edge_in None = x
  edge_in (Some p) = p.0

  abbrev count_in : Option (Edge × ℕ) → ℕ
  count_in None = n
  count_in (Some p) = p.1

  passed : (m : ℕ) → ((k : ℕ) (y : Edge) (i : ℕ) → k < at → slice_get es k ≡ Some (y, i) → IsCandidate bound (digram_of y) → i ≤ m) → (IsCandidate bound (digram_of x) → n ≤ m)
      → (k : ℕ) (y : Edge) (i : ℕ) → k < suc at → slice_get es k ≡ Some (y, i) → IsCandidate bound (digram_of y) → i ≤ m
  passed m before own k y i l e c = by_place (cases_lt k at) where
    by_place : (k < at) ⊎ (at ≤ k) → i ≤ m
    by_place (inl b) = before k y i b e c
    by_place (inr b) =
        let same : k ≡ at = omega arith in
        let f : Some (y, i) ≡ Some (x, n) = sym e ∙ ap (slice_get es) same ∙ here in
        let g : y ≡ x = ap (λ (o : Option (Edge × ℕ)). edge_in o) f in
        let h : i ≡ n = ap (λ (o : Option (Edge × ℕ)). count_in o) f in
        subst (λ j. j ≤ m) (sym h) (own (subst (λ z. IsCandidate bound (digram_of z)) g c))

  -- a better one comes
  pub best-taken : (most : ℕ) (top : Option Digram) → IsBest es bound at most top → most < n → IsCandidate bound (digram_of x) → counted_edge es x ≡ n → IsBest es bound (suc at) n (Some (digram_of x))
  best-taken most top b l c e = record {
    each = passed n (λ k y i m f d. let small : i ≤ most = b.each k y i m f d in omega arith) (λ d. omega arith);
    best = (c, e, omega arith);
  }

  -- or not
  pub best-kept : (most : ℕ) (top : Option Digram) → IsBest es bound at most top → (IsCandidate bound (digram_of x) → n ≤ most) → IsBest es bound (suc at) most top
  best-kept most top b own = record { each = passed most b.each own; best = b.best }

-- the best of all
pub best-of-all : (es : List (Edge × ℕ)) (bound most : ℕ) (top : Option Digram) → IsBest es bound (length es) most top
    → MatchOption top ((d : Digram) → IsCandidate bound d → counted es d ≡ 0) (IsTop (counted es) bound)
best-of-all es bound most top b = by_top top b.best where
  within : (xs : List (Edge × ℕ)) (k : ℕ) (p : Edge × ℕ) → slice_get xs k ≡ Some p → k < length xs
  within [] k p e = absurd cc
  within (x ∷ xs) zero p e = omega arith
  within (x ∷ xs) (suc k) p e = let h = within xs k p e in omega arith

  small : (d : Digram) → IsCandidate bound d → counted es d ≤ most
  small d c = by_edge (as-edge d) where
    found : (x : Edge) → d ≡ digram_of x → (counted_edge es x ≡ 0) ⊎ ((k : ℕ) × (slice_get es k ≡ Some (x, counted_edge es x))) → counted es d ≤ most
    found x e (inl z) = let f : counted es d ≡ counted_edge es x = ap (counted es) e in omega arith
    found x e (inr (k, there)) =
        let f : counted es d ≡ counted_edge es x = ap (counted es) e in
        let l : counted_edge es x ≤ most = b.each k x (counted_edge es x) (within es k (x, counted_edge es x) there) there (subst (IsCandidate bound) e c) in
        omega arith

    by_edge : ((x : Edge) × (d ≡ digram_of x)) ⊎ ((fs : List (Edge × ℕ)) → counted fs d ≡ 0) → counted es d ≤ most
    by_edge (inl (x, e)) = found x e (looked-up es x)
    by_edge (inr z) = let f = z es in omega arith

  by_top : (t : Option Digram) → MatchOption t (most ≡ 0) (λ d. IsCandidate bound d × (counted es d ≡ most) × (0 < most)) → MatchOption t ((d : Digram) → IsCandidate bound d → counted es d ≡ 0) (IsTop (counted es) bound)
  by_top None z = λ d c. let l = small d c in omega arith
  by_top (Some t) z = record { candidate = z.0; some = omega arith; most = λ o c. let l = small o c in omega arith }
