-- A term split at a node and a child of it: what is left once the child is dissolved or detached.
use Rattle.std.proofs.Common.{◌≡◌, ◌≢◌, inl, inr, ℕ, zero, suc, ◌+◌, ◌-◌, List, [], ◌∷◌, ◌++◌, length, drop, Some, refl, sym, ap, ◌∙◌, subst, arith, append_assoc, length-append}
use Rattle.std.proofs.lemmas.Bool.{eq-eqb}
use Rattle.std.proofs.lemmas.Bool.Decides.{eqb_tells}
use Rattle.rule_arena.specs.declared.label.Label.{Label}
use Rattle.rule_arena.specs.declared.key.Key.{Key}
use Rattle.rule_arena.specs.Preorder.{AreTerms, subterm, with_subterm}
use Rattle.rule_arena.specs.Terms.{Node, key_in, kids_of, labelled}
use Rattle.rule_arena.specs.Taking.{regrown}
use Rattle.rule_arena.proofs.Holes.{regrown-append}
use Rattle.rule_arena.proofs.PathLemmas.{key_in-left, key_in-right}
use Rattle.rule_arena.proofs.Told.{key_in-below}
use Rattle.rule_arena.proofs.PreorderLemmas.{AreTerms-append, subterm-split, with_subterm-split}

labelled-at : (front : List Node) (n : Node) (rest : List Node) (q : ℕ) (l : Label) → length front ≡ q → labelled (front ++ (n ∷ rest)) q l ≡ front ++ (record n { label = l } ∷ rest)
labelled-at [] n rest zero l e = refl
labelled-at [] n rest (suc q) l e = absurd (omega (arith, e))
labelled-at (m ∷ front) n rest zero l e = absurd (omega (arith, e))
labelled-at (m ∷ front) n rest (suc q) l e = ap (λ (ms : List Node). m ∷ ms) (labelled-at front n rest q l (omega (arith, e)))

regrown-none : (ns : List Node) (u : Key) (n : ℕ) → ((i : ℕ) (k : Key) → key_in ns i ≡ Some k → k.number ≢ u.number) → regrown ns u n ≡ ns
regrown-none [] u n h = refl
regrown-none (m ∷ ns) u n h =
    let r = regrown-none ns u n (λ i k e. h (suc i) k e) in
    elim (eqb_tells m.key.number u.number) [ inl e ↦ absurd (h 0 m.key refl e.1) | inr e ↦ rw (e.0, r) refl ]

drop-none : (ns : List Node) → drop 0 ns ≡ ns
drop-none [] = refl
drop-none (n ∷ ns) = refl

module _ (front : List Node) (N : Node) (xs : List Node) (L : Node) (ys zs back : List Node) (c d q p : ℕ) (place : length front ≡ q) (below : p ≡ suc (q + length xs))
    (hx : AreTerms kids_of c xs) (hy : AreTerms kids_of L.kids ys) (hz : AreTerms kids_of d zs) (hN : N.kids ≡ c + suc d)
    (once : (i : ℕ) (k : Key) → key_in (front ++ ((N ∷ (xs ++ ((L ∷ ys) ++ zs))) ++ back)) i ≡ Some k → k.number ≡ N.key.number → i ≡ q) where
  front_none : (i : ℕ) (k : Key) → key_in front i ≡ Some k → k.number ≢ N.key.number
  front_none i k e h = absurd (omega (arith, once i k (key_in-left front ((N ∷ (xs ++ ((L ∷ ys) ++ zs))) ++ back) i k e) h, key_in-below front i k e, place))

  rest_none : (i : ℕ) (k : Key) → key_in ((xs ++ ((L ∷ ys) ++ zs)) ++ back) i ≡ Some k → k.number ≢ N.key.number
  rest_none i k e h =
      let f : key_in ((N ∷ (xs ++ ((L ∷ ys) ++ zs))) ++ back) (suc i) ≡ Some k = e in
      absurd (omega (arith, once (length front + suc i) k (key_in-right front ((N ∷ (xs ++ ((L ∷ ys) ++ zs))) ++ back) (suc i) k f) h, place))

  one_low : AreTerms kids_of 1 (L ∷ ys)
  one_low = let z : L.kids ≡ L.kids + 0 = omega arith in subst (λ (n : ℕ). AreTerms kids_of n ys) z hy

  one_high : AreTerms kids_of 1 (N ∷ (xs ++ ((L ∷ ys) ++ zs)))
  one_high =
      let z : c + (1 + d) ≡ N.kids + 0 = omega (arith, hN) in
      subst (λ (n : ℕ). AreTerms kids_of n (xs ++ ((L ∷ ys) ++ zs))) z (AreTerms-append kids_of c (1 + d) xs ((L ∷ ys) ++ zs) hx (AreTerms-append kids_of 1 d (L ∷ ys) zs one_low hz))

  -- a node before the lower one's term
  regroup : (M : Node) (ws : List Node) → front ++ (M ∷ ((xs ++ (ws ++ zs)) ++ back)) ≡ (front ++ (M ∷ xs)) ++ (ws ++ (zs ++ back))
  regroup M ws =
      ap (λ (ms : List Node). front ++ (M ∷ ms)) (append_assoc xs (ws ++ zs) back ∙ ap (λ (ms : List Node). xs ++ ms) (append_assoc ws zs back))
      ∙ sym (append_assoc front (M ∷ xs) (ws ++ (zs ++ back)))

  before : (M : Node) → length (front ++ (M ∷ xs)) ≡ p
  before M = omega (arith, length-append front (M ∷ xs), place, below)

  head : (M : Node) (n : ℕ) (ms : List Node) → ((i : ℕ) (k : Key) → key_in ms i ≡ Some k → k.number ≢ M.key.number) → (let K : Node = record { key = M.key; label = M.label; kids = M.kids + n - 1 } in regrown (M ∷ ms) M.key n ≡ K ∷ ms)
  head M n ms h = rw (eq-eqb M.key.number M.key.number refl, regrown-none ms M.key n h) refl

  -- dissolved, and then another label for the parent: one node over the children of both
  pub merging : (l : Label) → (let ns : List Node = front ++ ((N ∷ (xs ++ ((L ∷ ys) ++ zs))) ++ back) in
      labelled (with_subterm kids_of (regrown ns N.key L.kids) p (drop 1 (subterm kids_of ns p))) q l
      ≡ with_subterm kids_of ns q (record { key = N.key; label = l; kids = c + (L.kids + d) } ∷ (xs ++ (ys ++ zs))))
  merging l =
      let ns : List Node = front ++ ((N ∷ (xs ++ ((L ∷ ys) ++ zs))) ++ back) in
      let N1 : Node = record { key = N.key; label = N.label; kids = N.kids + L.kids - 1 } in
      let N2 : Node = record { key = N.key; label = l; kids = N.kids + L.kids - 1 } in
      let N3 : Node = record { key = N.key; label = l; kids = c + (L.kids + d) } in
      let s1 : subterm kids_of ns p ≡ L ∷ ys = ap (λ (us : List Node). subterm kids_of us p) (regroup N (L ∷ ys)) ∙ subterm-split kids_of (front ++ (N ∷ xs)) (L ∷ ys) (zs ++ back) p (before N) one_low in
      let d1 : drop 1 (subterm kids_of ns p) ≡ ys = ap (λ (us : List Node). drop 1 us) s1 ∙ drop-none ys in
      let g1 : regrown ns N.key L.kids ≡ front ++ (N1 ∷ ((xs ++ ((L ∷ ys) ++ zs)) ++ back)) =
      regrown-append front (N ∷ ((xs ++ ((L ∷ ys) ++ zs)) ++ back)) N.key L.kids
      ∙ ap (λ (us : List Node). us ++ regrown (N ∷ ((xs ++ ((L ∷ ys) ++ zs)) ++ back)) N.key L.kids) (regrown-none front N.key L.kids front_none)
      ∙ ap (λ (us : List Node). front ++ us) (head N L.kids ((xs ++ ((L ∷ ys) ++ zs)) ++ back) rest_none) in
      let w1 : with_subterm kids_of (regrown ns N.key L.kids) p ys ≡ front ++ (N1 ∷ ((xs ++ (ys ++ zs)) ++ back)) =
      ap (λ (us : List Node). with_subterm kids_of us p ys) (g1 ∙ regroup N1 (L ∷ ys)) ∙ with_subterm-split kids_of (front ++ (N1 ∷ xs)) (L ∷ ys) (zs ++ back) ys p (before N1) one_low ∙ sym (regroup N1 ys) in
      let w2 = with_subterm-split kids_of front (N ∷ (xs ++ ((L ∷ ys) ++ zs))) back (N3 ∷ (xs ++ (ys ++ zs))) q place one_high in
      let k : N.kids + L.kids - 1 ≡ c + (L.kids + d) = omega (arith, hN) in
      let n : N2 ≡ N3 = ap (λ (j : ℕ). let m : Node = record { key = N.key; label = l; kids = j } in m) k in
      ap (λ (us : List Node). labelled (with_subterm kids_of (regrown ns N.key L.kids) p us) q l) d1
      ∙ ap (λ (us : List Node). labelled us q l) w1 ∙ labelled-at front N1 ((xs ++ (ys ++ zs)) ++ back) q l place
      ∙ ap (λ (m : Node). front ++ (m ∷ ((xs ++ (ys ++ zs)) ++ back))) n ∙ sym w2

  -- detached, and then another term in the parent's place
  pub covered : (ms : List Node) → (let ns : List Node = front ++ ((N ∷ (xs ++ ((L ∷ ys) ++ zs))) ++ back) in
      with_subterm kids_of (with_subterm kids_of (regrown ns N.key 0) p []) q ms ≡ with_subterm kids_of ns q ms)
  covered ms =
      let ns : List Node = front ++ ((N ∷ (xs ++ ((L ∷ ys) ++ zs))) ++ back) in
      let N2 : Node = record { key = N.key; label = N.label; kids = N.kids + 0 - 1 } in
      let g1 : regrown ns N.key 0 ≡ front ++ (N2 ∷ ((xs ++ ((L ∷ ys) ++ zs)) ++ back)) =
      regrown-append front (N ∷ ((xs ++ ((L ∷ ys) ++ zs)) ++ back)) N.key 0
      ∙ ap (λ (us : List Node). us ++ regrown (N ∷ ((xs ++ ((L ∷ ys) ++ zs)) ++ back)) N.key 0) (regrown-none front N.key 0 front_none)
      ∙ ap (λ (us : List Node). front ++ us) (head N 0 ((xs ++ ((L ∷ ys) ++ zs)) ++ back) rest_none) in
      let w1 : with_subterm kids_of (regrown ns N.key 0) p [] ≡ front ++ ((N2 ∷ (xs ++ zs)) ++ back) =
      ap (λ (us : List Node). with_subterm kids_of us p []) (g1 ∙ regroup N2 (L ∷ ys)) ∙ with_subterm-split kids_of (front ++ (N2 ∷ xs)) (L ∷ ys) (zs ++ back) [] p (before N2) one_low ∙ sym (regroup N2 []) in
      let z : c + d ≡ N.kids + 0 - 1 + 0 = omega (arith, hN) in
      let one : AreTerms kids_of 1 (N2 ∷ (xs ++ zs)) = subst (λ (n : ℕ). AreTerms kids_of n (xs ++ zs)) z (AreTerms-append kids_of c d xs zs hx hz) in
      ap (λ (us : List Node). with_subterm kids_of us q ms) w1
      ∙ with_subterm-split kids_of front (N2 ∷ (xs ++ zs)) back ms q place one
      ∙ sym (with_subterm-split kids_of front (N ∷ (xs ++ ((L ∷ ys) ++ zs))) back ms q place one_high)
