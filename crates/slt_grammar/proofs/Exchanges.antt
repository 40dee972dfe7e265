-- A term that gave way to another over terms that stood in it.
use Rattle.std.proofs.Common.{◌≡◌, ◌≢◌, inl, inr, ℕ, ◌+◌, ◌<◌, ◌≤◌, List, [], ◌∷◌, ◌++◌, length, set, Option, Some, None, IsSome, slice_get, refl, sym, ap, ◌∙◌, subst, arith, length-append}
use Rattle.std.proofs.lemmas.List.{length-map}
use Rattle.std.proofs.lemmas.Option.{slice_get_within}
use Rattle.std.proofs.lemmas.Bool.{cases_eq}
use Rattle.rule_arena.specs.Preorder.{subterm, with_subterm}
use Rattle.rule_arena.specs.Terms.{Node, Terms, At, Apart, term_at, key_in, or_nothing, kids_of, joined}
use Rattle.rule_arena.specs.declared.key.Key.{Key}
use Rattle.rule_arena.specs.declared.label.Label.{Label}
use Rattle.rule_arena.proofs.PathLemmas.{key_in-right}
use Rattle.rule_arena.proofs.PreorderLemmas.{subterm-split, with_subterm-split}
use Rattle.slt_grammar.proofs.Growing.{some_none}
use Rattle.slt_grammar.specs.Copying.{Made}
use Rattle.slt_grammar.specs.Detaching.{Laced, Loosened, between}
use Rattle.slt_grammar.specs.Holding.{terms_of, AreHeld}
use Rattle.slt_grammar.proofs.Changes.{terms-set, set-set}
use Rattle.slt_grammar.proofs.Detachings.{flat}

-- nodes that pieces begin with
begins : (b : Node) (first : List Node) (ws gs : List (List Node)) → (zs : List Node) × (between ((b ∷ first) ∷ ws) gs ≡ b ∷ zs)
begins b first ws [] = (first ++ between ws [], refl)
begins b first ws (g ∷ gs) = (first ++ (g ++ between ws gs), refl)

-- terms of roots, one after another
joined-flat : (a : Terms) (ks : List Key) → joined a ks ≡ flat (terms_of a ks)
joined-flat a [] = refl
joined-flat a (k ∷ ks) = ap (λ (zs : List Node). or_nothing (term_at a k.number) ++ zs) (joined-flat a ks)

-- how many nodes pieces and the terms between them have
length-between : (ws gs : List (List Node)) → length gs ≤ length ws → length (between ws gs) ≡ length (flat ws) + length (flat gs)
length-between [] [] h = refl
length-between [] (g ∷ gs) h = absurd (omega arith)
length-between (w ∷ ws) [] h = omega (arith, length-append w (between ws []), length-append w (flat ws), length-between ws [] (omega arith))
length-between (w ∷ ws) (g ∷ gs) h =
    omega (arith, length-append w (g ++ between ws gs), length-append g (between ws gs), length-append w (flat ws), length-append g (flat gs), length-between ws gs (omega arith))

-- a new node over the roots of these terms
pub made-over : (a b : Terms) (keys : List Key) (args : List (List Node)) (key : Key) (label : Label) → terms_of a keys ≡ args → length keys ≡ length args → term_at a key.number ≡ None
    → term_at b key.number ≡ Some (record { key = key; label = label; kids = length keys } ∷ joined a keys)
    → ((r : ℕ) → r ≢ key.number → Apart keys r → term_at b r ≡ term_at a r)
    → Made a b keys key (record { key = key; label = label; kids = length args } ∷ flat args)
made-over a b keys args key label given many vacant term others = record {
  term = term
      ∙ ap (λ (n : ℕ). let o : Option (List Node) = Some (record { key = key; label = label; kids = n } ∷ joined a keys) in o) many
      ∙ ap (λ (zs : List Node). let o : Option (List Node) = Some (record { key = key; label = label; kids = length args } ∷ zs) in o) (joined-flat a keys ∙ ap flat given);
  origin = inl vacant;
  others = λ r s d. others r (λ e. some_none (term_at a r) s (ap (λ (q : ℕ). term_at a q) e ∙ vacant)) d;
}

module _ (a0 a1 a2 : Terms) (rs : List Key) (call : Key) (kids : List Key) (croot : Key) (ms : List Node)
    (H : AreHeld a0 rs) (i : ℕ) (k : Key) (x : At a0 call) (there : slice_get rs i ≡ Some k) (root : x.root ≡ k.number) (args : List (List Node)) (C : Laced x.nodes x.place args)
    (D : Loosened a0 a1 x.root x.nodes x.place args C kids)
    (B : Made a1 a2 kids croot ms) where
  x-some : IsSome (term_at a0 x.root)
  x-some = subst (λ (t : Option (List Node)). IsSome t) (sym x.stands) refl

  not-root : (j : ℕ) (m : Key) → j ≢ i → slice_get rs j ≡ Some m → m.number ≢ x.root
  not-root j m d e h = d (H.distinct j i m k e there (h ∙ root))

  kept : (s : ℕ) → IsSome (term_at a0 s) → IsSome (term_at a1 s) → term_at a2 s ≡ term_at a1 s
  kept s o t = B.others s t (λ q kid e h. D.inner q kid e s o h)

  other1 : (j : ℕ) (m : Key) → j ≢ i → slice_get rs j ≡ Some m → term_at a1 m.number ≡ term_at a0 m.number
  other1 j m d e = D.others m.number (H.stands j m e) (not-root j m d e)

  still : (j : ℕ) (m : Key) → j ≢ i → slice_get rs j ≡ Some m → term_at a2 m.number ≡ term_at a0 m.number
  still j m d e =
      let o = other1 j m d e in
      kept m.number (H.stands j m e) (subst (λ (t : Option (List Node)). IsSome t) (sym o) (H.stands j m e)) ∙ o

  -- the body with leaves for the arguments
  abbrev pub leafy : List Node
  leafy = C.front ++ (between ((C.begin ∷ C.first) ∷ C.more) D.leaves ++ C.back)

  pub here : term_at a2 x.root ≡ Some leafy
  here = kept x.root x-some (subst (λ (t : Option (List Node)). IsSome t) (sym D.rest) refl) ∙ D.rest

  at-i : (j : ℕ) (m : Key) → j ≡ i → slice_get rs j ≡ Some m → m ≡ k
  at-i j m z e = let u : slice_get rs i ≡ Some m = ap (λ (p : ℕ). slice_get rs p) (sym z) ∙ e in cc

  head-key : (gs : List (List Node)) → key_in (C.front ++ (between ((C.begin ∷ C.first) ∷ C.more) gs ++ C.back)) x.place ≡ Some C.begin.key
  head-key gs =
      let z : length C.front + 0 ≡ x.place = omega (arith, C.place) in
      let b = begins C.begin C.first C.more gs in
      let h : key_in (between ((C.begin ∷ C.first) ∷ C.more) gs ++ C.back) 0 ≡ Some C.begin.key = ap (λ (ns : List Node). key_in (ns ++ C.back) 0) b.1 in
      ap (λ (q : ℕ). key_in (C.front ++ (between ((C.begin ∷ C.first) ∷ C.more) gs ++ C.back)) q) (sym z)
      ∙ key_in-right C.front (between ((C.begin ∷ C.first) ∷ C.more) gs ++ C.back) 0 C.begin.key h

  pub call-there : key_in leafy x.place ≡ Some call
  call-there = head-key D.leaves ∙ sym (head-key args) ∙ ap (λ (ns : List Node). key_in ns x.place) (sym C.whole) ∙ x.there

  abbrev pub call-at : At a2 call
  call-at = record { root = x.root; nodes = leafy; place = x.place; stands = here; there = call-there }

  pub held-on : AreHeld a2 rs
  held-on = record {
    stands = λ j m e. elim (cases_eq j i) [
      | inl z ↦ subst (λ (q : ℕ). IsSome (term_at a2 q)) (root ∙ ap (λ (q : Key). q.number) (sym (at-i j m z e))) (subst (λ (t : Option (List Node)). IsSome t) (sym here) refl)
      | inr d ↦ subst (λ (t : Option (List Node)). IsSome t) (sym (still j m d e)) (H.stands j m e)
    ];
    distinct = H.distinct;
  }

  stands1 : (j : ℕ) (m : Key) → slice_get rs j ≡ Some m → IsSome (term_at a1 m.number)
  stands1 j m e = elim (cases_eq j i) [
    | inl z ↦ subst (λ (q : ℕ). IsSome (term_at a1 q)) (root ∙ ap (λ (q : Key). q.number) (sym (at-i j m z e))) (subst (λ (t : Option (List Node)). IsSome t) (sym D.rest) refl)
    | inr d ↦ subst (λ (t : Option (List Node)). IsSome t) (sym (other1 j m d e)) (H.stands j m e)
  ]

  pub new-apart : Apart rs croot.number
  new-apart j m e h = elim B.origin [
    | inl z ↦ some_none (term_at a1 m.number) (stands1 j m e) (ap (λ (q : ℕ). term_at a1 q) h ∙ z)
    | inr w ↦ D.inner w.0 croot w.1 m.number (H.stands j m e) (sym h)
  ]

  pub new-stands : IsSome (term_at a2 croot.number)
  new-stands = subst (λ (t : Option (List Node)). IsSome t) (sym B.term) refl

  terms-on : terms_of a2 rs ≡ set (terms_of a0 rs) i leafy
  terms-on =
      terms-set a0 a2 rs rs i leafy (slice_get_within rs i k there) refl
      (λ m e. ap or_nothing (ap (λ (q : ℕ). term_at a2 q) (ap (λ (q : Key). q.number) (at-i i m refl e) ∙ sym root) ∙ here))
      (λ j p q d e f. let z : p ≡ q = one p q (slice_get rs j) e f in ap or_nothing (still j q d f ∙ ap (λ (u : Key). term_at a0 u.number) (sym z)))
    where
      one : (p q : Key) (o : Option Key) → o ≡ Some p → o ≡ Some q → p ≡ q
      one p q o e f = cc

  replaced : with_subterm kids_of leafy x.place ms ≡ with_subterm kids_of x.nodes x.place ms
  replaced =
      with_subterm-split kids_of C.front (between ((C.begin ∷ C.first) ∷ C.more) D.leaves) C.back ms x.place C.place D.one
      ∙ sym (ap (λ (ns : List Node). with_subterm kids_of ns x.place ms) C.whole ∙ with_subterm-split kids_of C.front (between ((C.begin ∷ C.first) ∷ C.more) args) C.back ms x.place C.place C.one)

  pub remade : (a3 : Terms) (ss : List Key) → terms_of a3 ss ≡ set (terms_of a2 rs) i (with_subterm kids_of leafy x.place ms)
      → terms_of a3 ss ≡ set (terms_of a0 rs) i (with_subterm kids_of x.nodes x.place ms)
  remade a3 ss e =
      e ∙ ap (λ (xs : List (List Node)). set xs i (with_subterm kids_of leafy x.place ms)) terms-on
      ∙ set-set (terms_of a0 rs) i leafy (with_subterm kids_of leafy x.place ms)
      ∙ ap (λ (ns : List Node). set (terms_of a0 rs) i ns) replaced

  -- what is freed is the term, with leaves for its arguments
  pub freed-here : (length (subterm kids_of leafy x.place) + length (flat args) ≡ length (subterm kids_of x.nodes x.place) + length kids)
      × (length (flat args) < length (subterm kids_of x.nodes x.place))
  freed-here =
      let ws : List (List Node) = (C.begin ∷ C.first) ∷ C.more in
      let given : length kids ≡ length args = sym (length-map kids (λ q. or_nothing (term_at a1 q.number))) ∙ ap length D.given in
      let a : subterm kids_of leafy x.place ≡ between ws D.leaves = subterm-split kids_of C.front (between ws D.leaves) C.back x.place C.place D.one in
      let b : subterm kids_of x.nodes x.place ≡ between ws args =
      ap (λ (ns : List Node). subterm kids_of ns x.place) C.whole ∙ subterm-split kids_of C.front (between ws args) C.back x.place C.place C.one in
      let m = length-between ws D.leaves (omega (arith, D.many, given, C.enough)) in
      let n = length-between ws args (omega (arith, C.enough)) in
      (omega (arith, ap length a, ap length b, m, n, D.size), omega (arith, ap length b, n, length-append (C.begin ∷ C.first) (flat C.more)))
