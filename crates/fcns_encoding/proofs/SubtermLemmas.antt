-- A table has at most as many cells as the last one's term has subterms.
use Rattle.std.proofs.Common.{◌≡◌, ℕ, zero, suc, ◌+◌, ◌<◌, ◌≤◌, List, [], ◌∷◌, length, get_or, Some, slice_get, refl, ap, sym, ◌∙◌, subst, ◌⊎◌, inl, inr, arith}
use Rattle.std.proofs.lemmas.Bool.Decides.{eqb_tells}
use Rattle.slt_grammar.specs.Terms.{Term, Leaf, Node, Hole}
use Rattle.fcns_encoding.specs.Cells.{AreEarlier, AreDistinctCells, AreUsed, term_at, terms_of, term_of}
use Rattle.fcns_encoding.specs.Subterms.{IsSubterm, AreSubterms}
use Rattle.fcns_encoding.specs.declared.subterms.Cell.{Cell}
use Rattle.fcns_encoding.proofs.CellLemmas.{get_is, has_get, got_within, numbered_long}
use Rattle.fcns_encoding.proofs.RuleLemmas.{no_cell, term-zero, term-cell}
use Rattle.fcns_encoding.proofs.SweptLemmas.{used-cell, user-later}

-- the list without the item at a place
abbrev out : {X : Type 0} → List X → ℕ → List X
out [] i = []
out (x ∷ xs) zero = xs
out (x ∷ xs) (suc i) = x ∷ out xs i

out-length : {X : Type 0} (xs : List X) (i : ℕ) → i < length xs → length (out xs i) + 1 ≡ length xs
out-length [] i h = absurd (omega (arith, h))
out-length (x ∷ xs) zero h = omega arith
out-length (x ∷ xs) (suc i) h = omega (arith, out-length xs i (omega (arith, h)))

-- the other items are still there
out-has : {X : Type 0} (xs : List X) (i j : ℕ) (x : X) → (j ≡ i → ⊥) → slice_get xs j ≡ Some x → (k : ℕ) × (slice_get (out xs i) k ≡ Some x)
out-has [] i j x n e = cc
out-has (y ∷ ys) zero zero x n e = absurd (n refl)
out-has (y ∷ ys) zero (suc j) x n e = (j, e)
out-has (y ∷ ys) (suc i) zero x n e = (0, e)
out-has (y ∷ ys) (suc i) (suc j) x n e = let w = out-has ys i j x (λ s. n (ap suc s)) e in (suc w.0, w.1)

-- a list of items, none twice, is no longer than a list that has them all
pub no_longer : {X : Type 0} (xs ys : List X) → ((i j : ℕ) (x : X) → slice_get xs i ≡ Some x → slice_get xs j ≡ Some x → i ≡ j) → ((i : ℕ) (x : X) → slice_get xs i ≡ Some x → (j : ℕ) × (slice_get ys j ≡ Some x))
    → length xs ≤ length ys
no_longer [] ys once has = omega arith
no_longer {X} (x ∷ xs) ys once has =
    let first = has 0 x refl in
    let others : (i : ℕ) (z : X) → slice_get xs i ≡ Some z → (j : ℕ) × (slice_get (out ys first.0) j ≡ Some z) = λ i z e.
    let w = has (suc i) z e in
    out-has ys first.0 w.0 z (λ s. apart i (once 0 (suc i) x refl (e ∙ sym (sym (ap (slice_get ys) s ∙ first.1) ∙ w.1)))) w.1 in
    let rest = no_longer xs (out ys first.0) (λ i j z a b. let e = once (suc i) (suc j) z a b in omega (arith, e)) others in
    omega (arith, rest, out-length ys first.0 (got_within ys first.0 x first.1))
  where
    apart : (i : ℕ) → 0 ≡ suc i → ⊥
    apart i e = cc

own-subterm : (t : Term) → IsSubterm t t
own-subterm Leaf = refl
own-subterm (Node f a b) = inl refl
own-subterm (Hole i) = refl

-- what stands under a symbol that is a subterm is one as well
below-symbol : (f : ℕ) (a b t : Term) → IsSubterm (Node f a b) t → IsSubterm a t × IsSubterm b t
below-symbol f a b Leaf s = cc
below-symbol f a b (Hole i) s = cc
below-symbol f a b (Node g x y) s =
    elim s [
      | inl e ↦ let left : a ≡ x = cc in let right : b ≡ y = cc in (
        inr (inl (subst (λ t. IsSubterm t x) (sym left) (own-subterm x))),
        inr (inr (subst (λ t. IsSubterm t y) (sym right) (own-subterm y))),
      )
      | inr w ↦ elim w [
        | inl u ↦ let h = below-symbol f a b x u in (inr (inl h.0), inr (inl h.1))
        | inr u ↦ let h = below-symbol f a b y u in (inr (inr h.0), inr (inr h.1))
      ]
    ]

same_fields : (a b : Cell) → a.symbol ≡ b.symbol → a.first ≡ b.first → a.second ≡ b.second → a ≡ b
same_fields a b s f g =
    ap (λ z. record a { symbol = z }) s ∙ ap (λ z. record b { first = z; second = a.second }) f ∙ ap (λ z. record b { second = z }) g

node_parts : (f g : ℕ) (a b x y : Term) → Node f a b ≡ Node g x y → (f ≡ g) × (a ≡ x) × (b ≡ y)
node_parts f g a b x y e = (cc, cc, cc)

module _ (cells : List Cell) (low : AreEarlier cells) where
  -- numbers of one term are one
  one_number : AreDistinctCells cells → (bound i j : ℕ) → i < bound → i ≤ length cells → j ≤ length cells → term_at cells i ≡ term_at cells j → i ≡ j
  one_number one zero i j b h k e = absurd (omega (arith, b))
  one_number one (suc bound) zero zero b h k e = refl
  one_number one (suc bound) zero (suc j) b h k e =
      let t = sym (term-zero cells low) ∙ e ∙ term-cell cells low j _ (has_get cells j no_cell (omega (arith, k))) in absurd cc
  one_number one (suc bound) (suc i) zero b h k e =
      let t = sym (term-zero cells low) ∙ sym e ∙ term-cell cells low i _ (has_get cells i no_cell (omega (arith, h))) in absurd cc
  one_number one (suc bound) (suc i) (suc j) b h k e =
      let c : Cell = get_or cells i no_cell in
      let d : Cell = get_or cells j no_cell in
      let there : slice_get cells i ≡ Some c = has_get cells i no_cell (omega (arith, h)) in
      let here : slice_get cells j ≡ Some d = has_get cells j no_cell (omega (arith, k)) in
      let lc = low i c there in
      let ld = low j d here in
      let parts = node_parts c.symbol d.symbol _ _ _ _ (sym (term-cell cells low i c there) ∙ e ∙ term-cell cells low j d here) in
      let first = one_number one bound c.first d.first (omega (arith, lc.0, b)) (omega (arith, lc.0, h)) (omega (arith, ld.0, k)) parts.1 in
      let second = one_number one bound c.second d.second (omega (arith, lc.1, b)) (omega (arith, lc.1, h)) (omega (arith, ld.1, k)) parts.2 in
      ap suc (one i j c there (here ∙ ap Some (sym (same_fields c d parts.0 first second))))

  -- bottom is a subterm of each number's term
  has_bottom : (bound k : ℕ) → k < bound → k ≤ length cells → IsSubterm Leaf (term_at cells k)
  has_bottom zero k b h = absurd (omega (arith, b))
  has_bottom (suc bound) zero b h = subst (IsSubterm Leaf) (sym (term-zero cells low)) refl
  has_bottom (suc bound) (suc i) b h =
      let c : Cell = get_or cells i no_cell in
      let here : slice_get cells i ≡ Some c = has_get cells i no_cell (omega (arith, h)) in
      let l = low i c here in
      subst (IsSubterm Leaf) (sym (term-cell cells low i c here)) (inr (inl (has_bottom bound c.first (omega (arith, l.0, b)) (omega (arith, l.0, h)))))

  module _ (m : ℕ) (n : length cells ≡ suc m) (used : AreUsed cells (length cells ∷ [])) where
    used-subterm : (i j : ℕ) (d : Cell) → slice_get cells j ≡ Some d → (d.first ≡ suc i) ⊎ (d.second ≡ suc i) → IsSubterm (term_at cells (suc j)) (term_at cells (length cells)) → IsSubterm (term_at cells (suc i)) (term_at cells (length cells))
    used-subterm i j d e u s =
        let both = below-symbol d.symbol (term_at cells d.first) (term_at cells d.second) (term_at cells (length cells)) (subst (λ t. IsSubterm t (term_at cells (length cells))) (term-cell cells low j d e) s) in
        elim u [
          | inl f ↦ subst (λ k. IsSubterm (term_at cells k) (term_at cells (length cells))) f both.0
          | inr f ↦ subst (λ k. IsSubterm (term_at cells k) (term_at cells (length cells))) f both.1
        ]

    -- each number's term is a subterm of the last one's
    cell-subterm : (left i : ℕ) → suc i ≤ length cells → length cells ≤ i + left → IsSubterm (term_at cells (suc i)) (term_at cells (length cells))
    cell-subterm zero i h l = absurd (omega (arith, h, l))
    cell-subterm (suc left) i h l =
        elim (eqb_tells (suc i) (length cells)) [
          | inl w ↦ subst (λ k. IsSubterm (term_at cells k) (term_at cells (length cells))) (sym w.1) (own-subterm (term_at cells (length cells)))
          | inr w ↦
              let ne = w.1 in
              let u = used-cell cells used i (omega (arith, h, ne)) in
              used-subterm i u.0 u.1 u.2 u.3 (cell-subterm left u.0 (omega (arith, got_within cells u.0 u.1 u.2)) (omega (arith, l, user-later cells low i u.0 u.1 u.2 u.3)))
        ]

    number-subterm : (k : ℕ) → k ≤ length cells → IsSubterm (term_at cells k) (term_at cells (length cells))
    number-subterm zero h = subst (λ t. IsSubterm t (term_at cells (length cells))) (sym (term-zero cells low)) (has_bottom (suc (length cells)) (length cells) (omega arith) (omega arith))
    number-subterm (suc i) h = cell-subterm (length cells) i h (omega arith)

    -- bottom and the cells are that many different subterms
    pub few-cells : AreDistinctCells cells → (terms : List Term) → AreSubterms terms (term_at cells (length cells)) → length cells + 1 ≤ length terms
    few-cells one terms are =
        let long = numbered_long Leaf term_of cells in
        let is : (k : ℕ) (s : Term) → slice_get (terms_of cells) k ≡ Some s → (k ≤ length cells) × (term_at cells k ≡ s) = λ k s e.
        (omega (arith, long, got_within (terms_of cells) k s e), get_is (terms_of cells) k s Leaf e) in
        let all = no_longer (terms_of cells) terms
        (λ i j s a b. let x = is i s a in let y = is j s b in one_number one (suc i) i j (omega arith) x.0 y.0 (x.1 ∙ sym y.1))
        (λ i s e. let x = is i s e in are.each s (subst (λ t. IsSubterm t (term_at cells (length cells))) x.1 (number-subterm i x.0))) in
        omega (arith, all, long)
