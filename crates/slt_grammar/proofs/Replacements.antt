-- A term that was put in the place of another, in bodies that are held by their roots.
use Rattle.std.proofs.Common.{◌≡◌, ◌≢◌, inl, inr, ℕ, zero, suc, ◌<◌, List, [], ◌∷◌, ◌++◌, length, set, take, drop, Option, Some, None, IsSome, slice_get, refl, sym, ap, ◌∙◌, subst, arith}
use Rattle.std.proofs.lemmas.List.{append-nil}
use Rattle.std.proofs.lemmas.Option.{slice_get_within}
use Rattle.std.proofs.lemmas.Bool.{cases_eq}
use Rattle.rule_arena.specs.Preorder.{AreTerms, with_subterm, subterm}
use Rattle.rule_arena.specs.Terms.{Node, Terms, At, Apart, IsSound, term_at, key_in, or_nothing, kids_of}
use Rattle.rule_arena.specs.declared.key.Key.{Key}
use Rattle.rule_arena.proofs.PreorderLemmas.{span-all}
use Rattle.slt_grammar.specs.Holding.{terms_of}
use Rattle.slt_grammar.specs.Holding.{AreHeld}
use Rattle.slt_grammar.proofs.Changes.{terms-set}
use Rattle.slt_grammar.proofs.Growing.{some_none}

pub keys_same : (k m : Key) → k.number ≡ m.number → k ≡ m
keys_same k m e = ap (λ (x : ℕ). let z : Key = record { number = x } in z) e

-- a node below a root is no root
pub no-root : (a : Terms) (at : Key) (r : ℕ) → IsSound a → (y : At a at) → 0 < y.place → IsSome (term_at a r) → r ≢ at.number
no-root a at r S y h s e = is (term_at a r) refl
  where
    is : (t : Option (List Node)) → term_at a r ≡ t → ⊥
    is None t = some_none (term_at a r) s t
    is (Some ns) t =
        let z : At a at = record { root = r; nodes = ns; place = 0; stands = t; there = S.first r ns t ∙ ap (λ (m : ℕ). let k : Key = record { number = m } in Some k) e } in
        omega (arith, (S.once at y z).1)

-- a body whose node is replaced
module _ (a b c : Terms) (roots : List Key) (at new : Key) (H : AreHeld a roots) (S : IsSound a) (apart : Apart roots new.number) (i : ℕ) (k : Key) (x : At a at) (ms : List Node)
    (there : slice_get roots i ≡ Some k) (root : x.root ≡ k.number) (stands : term_at a new.number ≡ Some ms) (inner : 0 < x.place)
    (moved : term_at b x.root ≡ Some (with_subterm kids_of x.nodes x.place ms))
    (others : (r : ℕ) → r ≢ x.root → r ≢ at.number → r ≢ new.number → term_at b r ≡ term_at a r)
    (kept : (r : ℕ) → r ≢ at.number → term_at c r ≡ term_at b r) where
  still : (j : ℕ) (m : Key) → j ≢ i → slice_get roots j ≡ Some m → term_at c m.number ≡ term_at a m.number
  still j m d e =
      let n : m.number ≢ at.number = no-root a at m.number S x inner (H.stands j m e) in
      kept m.number n ∙ others m.number (λ z. d (H.distinct j i m k e there (z ∙ root))) n (apart j m e)

  here : term_at c k.number ≡ Some (with_subterm kids_of x.nodes x.place ms)
  here =
      let s : IsSome (term_at a k.number) = H.stands i k there in
      kept k.number (no-root a at k.number S x inner s) ∙ ap (λ (r : ℕ). term_at b r) (sym root) ∙ moved

  at-i : (j : ℕ) (m : Key) → j ≡ i → slice_get roots j ≡ Some m → m ≡ k
  at-i j m z e = let u : slice_get roots i ≡ Some m = ap (λ (p : ℕ). slice_get roots p) (sym z) ∙ e in cc

  pub held-inner : AreHeld c roots
  held-inner = record {
    stands = λ j m e. elim (cases_eq j i) [
      | inl z ↦ subst (λ (q : Key). IsSome (term_at c q.number)) (sym (at-i j m z e)) (subst (λ (t : Option (List Node)). IsSome t) (sym here) refl)
      | inr d ↦ subst (λ (t : Option (List Node)). IsSome t) (sym (still j m d e)) (H.stands j m e)
    ];
    distinct = H.distinct;
  }

  pub bodies-inner : terms_of c roots ≡ set (terms_of a roots) i (with_subterm kids_of x.nodes x.place ms)
  bodies-inner =
      terms-set a c roots roots i (with_subterm kids_of x.nodes x.place ms) (slice_get_within roots i k there) refl
      (λ m e. ap or_nothing (ap (λ (q : Key). term_at c q.number) (at-i i m refl e) ∙ here))
      (λ j p q d e f. let z : p ≡ q = one p q (slice_get roots j) e f in ap or_nothing (still j q d f ∙ ap (λ (u : Key). term_at a u.number) (sym z)))
    where
      one : (p q : Key) (o : Option Key) → o ≡ Some p → o ≡ Some q → p ≡ q
      one p q o e f = cc

slice_get-set-same : (xs : List Key) (i : ℕ) (y : Key) → i < length xs → slice_get (set xs i y) i ≡ Some y
slice_get-set-same [] i y h = absurd (omega arith)
slice_get-set-same (x ∷ xs) zero y h = refl
slice_get-set-same (x ∷ xs) (suc i) y h = slice_get-set-same xs i y (omega arith)

slice_get-set-other : (xs : List Key) (i j : ℕ) (y : Key) → j ≢ i → slice_get (set xs i y) j ≡ slice_get xs j
slice_get-set-other [] i j y d = refl
slice_get-set-other (x ∷ xs) zero zero y d = absurd (d refl)
slice_get-set-other (x ∷ xs) zero (suc j) y d = refl
slice_get-set-other (x ∷ xs) (suc i) zero y d = refl
slice_get-set-other (x ∷ xs) (suc i) (suc j) y d = slice_get-set-other xs i j y (λ e. d (omega arith))

length-set-keys : (xs : List Key) (i : ℕ) (y : Key) → length (set xs i y) ≡ length xs
length-set-keys [] i y = refl
length-set-keys (x ∷ xs) zero y = refl
length-set-keys (x ∷ xs) (suc i) y = ap suc (length-set-keys xs i y)

-- a node at the first place of a body is its root
pub root-is : (a : Terms) (at k : Key) → IsSound a → (x : At a at) → x.root ≡ k.number → x.place ≡ 0 → at ≡ k
root-is a at k S x root first =
    let e : key_in x.nodes 0 ≡ Some at = ap (λ (p : ℕ). key_in x.nodes p) (sym first) ∙ x.there in
    let f : key_in x.nodes 0 ≡ Some (record { number = x.root }) = S.first x.root x.nodes x.stands in
    let z : Key = record { number = x.root } in
    let g : Some z ≡ Some at = sym f ∙ e in
    let h : z ≡ at = cc in
    sym h ∙ keys_same z k root

-- a body whose root is replaced
module _ (a c : Terms) (roots : List Key) (at new : Key) (H : AreHeld a roots) (S : IsSound a) (apart : Apart roots new.number) (i : ℕ) (k : Key) (x : At a at) (ms : List Node)
    (there : slice_get roots i ≡ Some k) (root : x.root ≡ k.number) (stands : term_at a new.number ≡ Some ms) (first : x.place ≡ 0)
    (kept : (r : ℕ) → r ≢ at.number → term_at c r ≡ term_at a r) where
  is-root : at ≡ k
  is-root = root-is a at k S x root first

  pub new-apart : new.number ≢ at.number
  new-apart e = apart i k there (ap (λ (q : Key). q.number) (sym is-root) ∙ sym e)

  new-here : term_at c new.number ≡ Some ms
  new-here = kept new.number new-apart ∙ stands

  others-still : (j : ℕ) (m : Key) → j ≢ i → slice_get roots j ≡ Some m → term_at c m.number ≡ term_at a m.number
  others-still j m d e = kept m.number (λ z. d (H.distinct j i m k e there (z ∙ ap (λ (q : Key). q.number) is-root)))

  within : i < length roots
  within = slice_get_within roots i k there

  whole : with_subterm kids_of x.nodes x.place ms ≡ ms
  whole =
      let t : AreTerms kids_of 1 x.nodes = S.term x.root x.nodes x.stands in
      ap (λ (p : ℕ). with_subterm kids_of x.nodes p ms) first
      ∙ ap (λ (s : ℕ). ms ++ drop s x.nodes) (span-all kids_of 1 x.nodes t) ∙ ap (λ (ns : List Node). ms ++ ns) (none x.nodes) ∙ append-nil ms
    where
      none : (xs : List Node) → drop (length xs) xs ≡ []
      none [] = refl
      none (x ∷ xs) = none xs

  at-new : (m : Key) → slice_get (set roots i new) i ≡ Some m → m ≡ new
  at-new m e = let u = slice_get-set-same roots i new within in cc

  pub held-root : AreHeld c (set roots i new)
  held-root = record {
    stands = λ j m e. elim (cases_eq j i) [
      | inl z ↦ subst (λ (q : Key). IsSome (term_at c q.number)) (sym (at-new m (ap (λ (p : ℕ). slice_get (set roots i new) p) (sym z) ∙ e))) (subst (λ (t : Option (List Node)). IsSome t) (sym new-here) refl)
      | inr d ↦ let f = sym (slice_get-set-other roots i j new d) ∙ e in subst (λ (t : Option (List Node)). IsSome t) (sym (others-still j m d f)) (H.stands j m f)
    ];
    distinct = λ j q m n e f h. elim (cases_eq j i) [
      | inl z ↦ elim (cases_eq q i) [
        | inl w ↦ z ∙ sym w
        | inr d ↦ absurd (apart q n (sym (slice_get-set-other roots i q new d) ∙ f) (sym h ∙ ap (λ (u : Key). u.number) (at-new m (ap (λ (p : ℕ). slice_get (set roots i new) p) (sym z) ∙ e))))
      ]
      | inr d ↦ elim (cases_eq q i) [
        | inl w ↦ absurd (apart j m (sym (slice_get-set-other roots i j new d) ∙ e) (h ∙ ap (λ (u : Key). u.number) (at-new n (ap (λ (p : ℕ). slice_get (set roots i new) p) (sym w) ∙ f))))
        | inr w ↦ H.distinct j q m n (sym (slice_get-set-other roots i j new d) ∙ e) (sym (slice_get-set-other roots i q new w) ∙ f) h
      ]
    ];
  }

  pub bodies-root : terms_of c (set roots i new) ≡ set (terms_of a roots) i (with_subterm kids_of x.nodes x.place ms)
  bodies-root =
      terms-set a c roots (set roots i new) i (with_subterm kids_of x.nodes x.place ms) within (length-set-keys roots i new)
      (λ m e. ap or_nothing (ap (λ (q : Key). term_at c q.number) (at-new m e) ∙ new-here) ∙ sym whole)
      (λ j p q d e f.
      let g : slice_get roots j ≡ Some q = sym (slice_get-set-other roots i j new d) ∙ f in
      let z : p ≡ q = one p q (slice_get roots j) e g in
      ap or_nothing (others-still j q d g ∙ ap (λ (u : Key). term_at a u.number) (sym z)))
    where
      one : (p q : Key) (o : Option Key) → o ≡ Some p → o ≡ Some q → p ≡ q
      one p q o e f = cc

-- the term at the first place is the whole
pub subterm-first : (ns : List Node) (p : ℕ) → AreTerms kids_of 1 ns → p ≡ 0 → subterm kids_of ns p ≡ ns
subterm-first ns p t z = ap (λ (q : ℕ). subterm kids_of ns q) z ∙ ap (λ (s : ℕ). take s ns) (span-all kids_of 1 ns t) ∙ all ns
  where
    all : (xs : List Node) → take (length xs) xs ≡ xs
    all [] = refl
    all (x ∷ xs) = ap (λ (ys : List Node). x ∷ ys) (all xs)

-- no body is held by a node that was taken out
pub inner-apart : (a : Terms) (roots : List Key) (at : Key) → AreHeld a roots → IsSound a → (x : At a at) → 0 < x.place → Apart roots at.number
inner-apart a roots at H S x h j m e = no-root a at m.number S x h (H.stands j m e)

pub root-apart : (a : Terms) (roots : List Key) (at new : Key) (i : ℕ) → AreHeld a roots → slice_get roots i ≡ Some at → new.number ≢ at.number → Apart (set roots i new) at.number
root-apart a roots at new i H there n j m e h = elim (cases_eq j i) [
  | inl z ↦ n (let u = slice_get-set-same roots i new (slice_get_within roots i at there) in let w : slice_get (set roots i new) i ≡ Some m = ap (λ (p : ℕ). slice_get (set roots i new) p) (sym z) ∙ e in let v : new ≡ m = cc in ap (λ (q : Key). q.number) v ∙ h)
  | inr d ↦ d (H.distinct j i m at (sym (slice_get-set-other roots i j new d) ∙ e) there h)
]
