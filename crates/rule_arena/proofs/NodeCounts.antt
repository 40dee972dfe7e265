-- All terms together have no more nodes than there are keys.
use Rattle.std.proofs.Common.{◌≡◌, inl, inr, ℕ, zero, suc, ◌+◌, ◌-◌, ◌<◌, ◌≤◌, List, [], ◌∷◌, ◌++◌, length, map, get_or, true, false, eqb, Option, Some, None, slice_get, refl, sym, ap, ◌∙◌, arith, length-append}
use Rattle.std.specs.List.{IsDistinct, AllByRecursion, list_any, sum_by}
use Rattle.std.proofs.lemmas.Bool.Decides.{eqb_tells}
use Rattle.std.proofs.lemmas.List.Sums.{sum_by-cons}
use Rattle.std.proofs.lemmas.List.{length-map}
use Rattle.std.proofs.lemmas.Map.Steps.{length-le_from_distinct_below}
use Rattle.rule_arena.specs.declared.key.Key.{Key}
use Rattle.rule_arena.specs.Terms.{Node, Terms, At, key_in, node_count, or_nothing, term_at}
use Rattle.rule_arena.proofs.CellLemmas.{key_is}
use Rattle.rule_arena.proofs.ListLemmas.{get-append}

numbers : List Node → List ℕ
numbers [] = []
numbers (n ∷ ns) = n.key.number ∷ numbers ns

all_numbers : List (Option (List Node)) → List ℕ
all_numbers [] = []
all_numbers (o ∷ os) = numbers (or_nothing o) ++ all_numbers os

length-numbers : (ns : List Node) → length (numbers ns) ≡ length ns
unfolding numbers
length-numbers [] = refl
length-numbers (n ∷ ns) = ap suc (length-numbers ns)

length-all_numbers : (os : List (Option (List Node))) → length (all_numbers os) ≡ sum_by (λ o. length (or_nothing o)) os
unfolding all_numbers
length-all_numbers [] = refl
length-all_numbers (o ∷ os) =
    let w : sum_by (λ o. length (or_nothing o)) (o ∷ os) ≡ length (or_nothing o) + sum_by (λ o. length (or_nothing o)) os = sum_by-cons (λ o. length (or_nothing o)) o os in
    omega (arith, w, length-append (numbers (or_nothing o)) (all_numbers os), length-numbers (or_nothing o), length-all_numbers os)

number_at : (ns : List Node) (i x : ℕ) → slice_get (numbers ns) i ≡ Some x → key_in ns i ≡ Some (record { number = x })
unfolding numbers
number_at [] i x e = absurd (cc)
number_at (n ∷ ns) zero x e = let h : n.key.number ≡ x = cc in ap Some (key_is n.key x h)
number_at (n ∷ ns) (suc i) x e = number_at ns i x e

-- how many nodes the terms before one have
before : List (Option (List Node)) → ℕ → ℕ
before os zero = 0
before [] (suc r) = 0
before (o ∷ os) (suc r) = length (or_nothing o) + before os r

-- a number in the list is that of a node's key
record NumberAt (os : List (Option (List Node))) (i x : ℕ) : Type 0 where
  pub root : ℕ
  pub place : ℕ
  pub there : key_in (or_nothing (get_or os root None)) place ≡ Some (record { number = x })
  pub index : i ≡ before os root + place

number_from : (os : List (Option (List Node))) (i x : ℕ) → slice_get (all_numbers os) i ≡ Some x → NumberAt os i x
unfolding all_numbers before
number_from [] i x e = absurd (cc)
number_from (o ∷ os) i x e = elim (get-append (numbers (or_nothing o)) (all_numbers os) i x e) [
  | inl h ↦ record { root = 0; place = i; there = number_at (or_nothing o) i x h.1; index = omega arith }
  | inr h ↦
      let S = number_from os (i - length (numbers (or_nothing o))) x h.1 in
      record { root = suc S.root; place = S.place; there = S.there; index = omega (arith, h.0, S.index, length-numbers (or_nothing o)) }
]

apart_from : (x : ℕ) (xs : List ℕ) → ((i : ℕ) → slice_get xs i ≡ Some x → ⊥) → AllByRecursion (λ y. eqb x y ≡ false) xs
apart_from x [] h = tt
apart_from x (y ∷ ys) h = elim (eqb_tells x y) [
  | inl e ↦ absurd (h 0 (ap Some (sym e.1)))
  | inr e ↦ (e.0, apart_from x ys (λ i f. h (suc i) f))
]

distinct : (xs : List ℕ) → ((i j x : ℕ) → slice_get xs i ≡ Some x → slice_get xs j ≡ Some x → i ≡ j) → IsDistinct eqb xs
unfolding IsDistinct
distinct [] h = tt
distinct (x ∷ xs) h = (apart_from x xs (λ i e. absurd (omega (arith, h 0 (suc i) x refl e))), distinct xs (λ i j y e f. omega (arith, h (suc i) (suc j) y e f)))

member : (q : ℕ) (xs : List ℕ) → list_any (eqb q) xs ≡ true → (i : ℕ) × (slice_get xs i ≡ Some q)
member q [] e = absurd (cc)
member q (x ∷ xs) e = elim (eqb_tells q x) [
  | inl h ↦ (0, ap Some (sym h.1))
  | inr h ↦ let r = member q xs (rw h.0 at e) in (suc r.0, r.1)
]

-- the values of a function at these numbers
at_rank : (f : ℕ → ℕ) (xs : List ℕ) (i y : ℕ) → slice_get (map f xs) i ≡ Some y → (x : ℕ) × ((slice_get xs i ≡ Some x) × (f x ≡ y))
at_rank f [] i y e = absurd (cc)
at_rank f (x ∷ xs) zero y e = (x, (refl, cc))
at_rank f (x ∷ xs) (suc i) y e = at_rank f xs i y e

module _ (a : Terms) (once : (key : Key) (x y : At a key) → (x.root ≡ y.root) × (x.place ≡ y.place)) where
  at : (r p x : ℕ) → key_in (or_nothing (term_at a r)) p ≡ Some (record { number = x }) → (y : At a (record { number = x })) × ((y.root ≡ r) × (y.place ≡ p))
  at r p x e = by (term_at a r) refl e
    where
      by : (o : Option (List Node)) → term_at a r ≡ o → key_in (or_nothing o) p ≡ Some (record { number = x }) → (y : At a (record { number = x })) × ((y.root ≡ r) × (y.place ≡ p))
      by None t h = absurd (cc)
      by (Some ns) t h = (record { root = r; nodes = ns; place = p; stands = t; there = h }, (refl, refl))

  node_at : (i x : ℕ) → slice_get (all_numbers a.terms) i ≡ Some x → At a (record { number = x })
  node_at i x e = let S = number_from a.terms i x e in (at S.root S.place x S.there).0

  one_index : (i j x : ℕ) → slice_get (all_numbers a.terms) i ≡ Some x → slice_get (all_numbers a.terms) j ≡ Some x → i ≡ j
  one_index i j x e f =
      let S = number_from a.terms i x e in
      let T = number_from a.terms j x f in
      let y = at S.root S.place x S.there in
      let z = at T.root T.place x T.there in
      let o = once (record { number = x }) y.0 z.0 in
      let r : S.root ≡ T.root = sym y.1.0 ∙ o.0 ∙ z.1.0 in
      omega (arith, S.index, T.index, ap (λ (k : ℕ). before a.terms k) r, y.1.1, z.1.1, o.1)

  -- terms whose keys are ranked, each with a rank of its own below n, have at most n nodes
  pub count_ranked : (rank : ℕ → ℕ) (n : ℕ) → ((key : Key) → At a key → rank key.number < n)
      → ((x y : ℕ) → At a (record { number = x }) → At a (record { number = y }) → rank x ≡ rank y → x ≡ y) → node_count a ≤ n
  count_ranked rank n below apart =
      let xs : List ℕ = all_numbers a.terms in
      let d : IsDistinct eqb (map rank xs) = distinct (map rank xs) (λ i j y e f.
      let S = at_rank rank xs i y e in
      let T = at_rank rank xs j y f in
      let same : S.0 ≡ T.0 = apart S.0 T.0 (node_at i S.0 S.1.0) (node_at j T.0 T.1.0) (S.1.1 ∙ sym T.1.1) in
      one_index i j S.0 S.1.0 (T.1.0 ∙ ap Some (sym same))) in
      let w : length (map rank xs) ≤ n = length-le_from_distinct_below (map rank xs) n d (λ q e.
      let m = member q (map rank xs) e in
      let S = at_rank rank xs m.0 q m.1 in
      let b : rank S.0 < n = below (record { number = S.0 }) (node_at m.0 S.0 S.1.0) in
      omega (arith, b, S.1.1)) in
      omega (arith, w, length-map xs rank, length-all_numbers a.terms)

  -- terms whose keys are below n have at most n nodes
  pub count_below : (n : ℕ) → ((key : Key) → At a key → key.number < n) → node_count a ≤ n
  count_below n below = count_ranked (λ x. x) n below (λ x y _ _ e. e)
