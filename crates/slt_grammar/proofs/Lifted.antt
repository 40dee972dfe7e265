-- A node that gave way to its second child.
use Rattle.std.proofs.Common.{◌≡◌, ◌≢◌, inl, inr, ℕ, zero, suc, ◌+◌, ◌-◌, ◌<◌, List, [], ◌∷◌, ◌++◌, length, get_or, take, drop, Option, Some, IsSome, slice_get, refl, sym, ap, ◌∙◌, subst, arith, append_assoc, length-append}
use Rattle.std.proofs.lemmas.Bool.{eq-eqb}
use Rattle.std.proofs.lemmas.Bool.Decides.{eqb_tells}
use Rattle.std.proofs.lemmas.List.{append-nil}
use Rattle.rule_arena.specs.Preorder.{AreTerms, span, terms, subterm, with_subterm}
use Rattle.rule_arena.specs.Taking.{regrown, without_term}
use Rattle.rule_arena.specs.Terms.{Node, Terms, At, IsSound, term_at, key_in, kids_in, kids_of, parent_in}
use Rattle.rule_arena.specs.Children.{Child, ChildAt}
use Rattle.rule_arena.specs.Laws.{IsKeyedTerm}
use Rattle.rule_arena.specs.declared.key.Key.{Key}
use Rattle.rule_arena.proofs.Holes.{regrown-append}
use Rattle.rule_arena.proofs.PreorderLemmas.{AreTerms-append, span-append, subterm-split, with_subterm-split}
use Rattle.rule_arena.proofs.TakingLaws.{child_apart, keys_stay, detaching}
use Rattle.slt_grammar.specs.Holding.{AreHeld, Changed}
use Rattle.slt_grammar.specs.KeyedEdits.{lifted_nodes}
use Rattle.slt_grammar.proofs.Changes.{changed-one}
use Rattle.slt_grammar.proofs.Replacements.{no-root}
use Rattle.slt_grammar.proofs.Folded.{keyed-term}
use Rattle.slt_grammar.proofs.Parents.{child-parent, child-there}
use Rattle.slt_grammar.proofs.TourWalking.{node-key}

regrown-none : (ns : List Node) (u : Key) (n : ℕ) → ((i : ℕ) (k : Key) → key_in ns i ≡ Some k → k.number ≢ u.number) → regrown ns u n ≡ ns
regrown-none [] u n h = refl
regrown-none (m ∷ ns) u n h =
    let r = regrown-none ns u n (λ i k e. h (suc i) k e) in
    elim (eqb_tells m.key.number u.number) [ inl e ↦ absurd (h 0 m.key refl e.1) | inr e ↦ rw (e.0, r) refl ]

key-left : (xs ys : List Node) (p : ℕ) (k : Key) → key_in xs p ≡ Some k → (key_in (xs ++ ys) p ≡ Some k) × (p < length xs)
key-left [] ys p k e = absurd (cc)
key-left (x ∷ xs) ys zero k e = (e, omega arith)
key-left (x ∷ xs) ys (suc p) k e = let h = key-left xs ys p k e in (h.0, omega (arith, h.1))

key-right : (xs ys : List Node) (p : ℕ) → key_in (xs ++ ys) (length xs + p) ≡ key_in ys p
key-right [] ys p = let z : 0 + p ≡ p = omega arith in ap (λ (k : ℕ). key_in ys k) z
key-right (x ∷ xs) ys p = let z : suc (length xs) + p ≡ suc (length xs + p) = omega arith in ap (λ (k : ℕ). key_in (x ∷ (xs ++ ys)) k) z ∙ key-right xs ys p

key_back : (k m : Key) → k.number ≡ m.number → k ≡ m
key_back k m e = ap (λ (x : ℕ). let z : Key = record { number = x } in z) e

pub take-front : {X : Type 0} (xs ys : List X) → take (length xs) (xs ++ ys) ≡ xs
take-front [] ys = refl
take-front (x ∷ xs) ys = ap (λ zs. x ∷ zs) (take-front xs ys)

pub drop-front : {X : Type 0} (xs ys : List X) → drop (length xs) (xs ++ ys) ≡ ys
drop-front [] ys = refl
drop-front (x ∷ xs) ys = drop-front xs ys

-- the term without a child
module _ (ns : List Node) (q : ℕ) (N : Node) (c : ℕ) (key : Key) (t : IsKeyedTerm ns) (C : ChildAt ns q N c key) where
  abbrev pub D : Child C.rest N.kids c key
  D = C.child

  abbrev pub low : ℕ
  low = suc (q + length D.before)

  abbrev pub fewer : Node
  fewer = record N { kids = N.kids + 0 - 1 }

  whole : ns ≡ C.front ++ (N ∷ (D.before ++ ((D.node ∷ D.below) ++ (D.after ++ D.back))))
  whole = C.split ∙ ap (λ (zs : List Node). C.front ++ (N ∷ zs)) D.split

  here : key_in ns q ≡ Some N.key
  here =
      let z : q ≡ length C.front + 0 = omega (arith, C.at) in
      ap (λ (zs : List Node). key_in zs q) C.split ∙ ap (λ (k : ℕ). key_in (C.front ++ (N ∷ C.rest)) k) z ∙ key-right C.front (N ∷ C.rest) 0

  front_none : (i : ℕ) (k : Key) → key_in C.front i ≡ Some k → k.number ≢ N.key.number
  front_none i k e h =
      let l = key-left C.front (N ∷ C.rest) i k e in
      let f : key_in ns i ≡ Some N.key = ap (λ (zs : List Node). key_in zs i) C.split ∙ l.0 ∙ ap Some (key_back k N.key h) in
      omega (arith, t.once i q N.key f here, l.1, C.at)

  rest_none : (i : ℕ) (k : Key) → key_in C.rest i ≡ Some k → k.number ≢ N.key.number
  rest_none i k e h =
      let f : key_in ns (length C.front + suc i) ≡ Some N.key = ap (λ (zs : List Node). key_in zs (length C.front + suc i)) C.split ∙ key-right C.front (N ∷ C.rest) (suc i) ∙ e ∙ ap Some (key_back k N.key h) in
      omega (arith, t.once (length C.front + suc i) q N.key f here, C.at)

  one_low : AreTerms kids_of 1 (D.node ∷ D.below)
  one_low = let z : D.node.kids ≡ D.node.kids + 0 = omega arith in subst (λ (n : ℕ). AreTerms kids_of n D.below) z D.below_terms

  regroup : (M : Node) (ws : List Node) → C.front ++ (M ∷ (D.before ++ (ws ++ (D.after ++ D.back)))) ≡ (C.front ++ (M ∷ D.before)) ++ (ws ++ (D.after ++ D.back))
  regroup M ws = sym (append_assoc C.front (M ∷ D.before) (ws ++ (D.after ++ D.back)))

  before_low : (M : Node) → length (C.front ++ (M ∷ D.before)) ≡ low
  before_low M = omega (arith, length-append C.front (M ∷ D.before), C.at)

  regrown-is : regrown ns N.key 0 ≡ C.front ++ (fewer ∷ (D.before ++ ((D.node ∷ D.below) ++ (D.after ++ D.back))))
  regrown-is =
      ap (λ (zs : List Node). regrown zs N.key 0) C.split ∙ regrown-append C.front (N ∷ C.rest) N.key 0
      ∙ ap (λ (zs : List Node). zs ++ regrown (N ∷ C.rest) N.key 0) (regrown-none C.front N.key 0 front_none)
      ∙ ap (λ (zs : List Node). C.front ++ zs) head ∙ ap (λ (zs : List Node). C.front ++ (fewer ∷ zs)) D.split
    where
      head : regrown (N ∷ C.rest) N.key 0 ≡ fewer ∷ C.rest
      head = rw (eq-eqb N.key.number N.key.number refl, regrown-none C.rest N.key 0 rest_none) refl

  pub without-is : without_term ns N.key low ≡ C.front ++ (fewer ∷ (D.before ++ (D.after ++ D.back)))
  without-is =
      ap (λ (us : List Node). with_subterm kids_of us low []) (regrown-is ∙ regroup fewer (D.node ∷ D.below))
      ∙ with_subterm-split kids_of (C.front ++ (fewer ∷ D.before)) (D.node ∷ D.below) (D.after ++ D.back) [] low (before_low fewer) one_low ∙ sym (regroup fewer [])

  pub low-subterm : subterm kids_of ns low ≡ D.node ∷ D.below
  low-subterm =
      ap (λ (us : List Node). subterm kids_of us low) (whole ∙ regroup N (D.node ∷ D.below))
      ∙ subterm-split kids_of (C.front ++ (N ∷ D.before)) (D.node ∷ D.below) (D.after ++ D.back) low (before_low N) one_low

  pub rest-is : drop (q + 1) ns ≡ D.before ++ ((D.node ∷ D.below) ++ (D.after ++ D.back))
  rest-is =
      let z : q + 1 ≡ length (C.front ++ N ∷ []) = omega (arith, length-append C.front (N ∷ []), C.at) in
      ap (λ (k : ℕ). drop k ns) z ∙ ap (λ (zs : List Node). drop (length (C.front ++ N ∷ [])) zs) (C.split ∙ sym (append_assoc C.front (N ∷ []) C.rest))
      ∙ drop-front (C.front ++ N ∷ []) C.rest ∙ D.split

  -- the node with its children
  pub node-subterm : subterm kids_of ns q ≡ N ∷ (D.before ++ ((D.node ∷ D.below) ++ D.after))
  node-subterm =
      let z : c + (1 + D.more) ≡ N.kids + 0 = omega (arith, D.many) in
      let one : AreTerms kids_of 1 (N ∷ (D.before ++ ((D.node ∷ D.below) ++ D.after))) = subst (λ (n : ℕ). AreTerms kids_of n (D.before ++ ((D.node ∷ D.below) ++ D.after))) z
      (AreTerms-append kids_of c (1 + D.more) D.before ((D.node ∷ D.below) ++ D.after) D.before_terms (AreTerms-append kids_of 1 D.more (D.node ∷ D.below) D.after one_low D.after_terms)) in
      ap (λ (zs : List Node). subterm kids_of zs q) (whole ∙ ap (λ (zs : List Node). C.front ++ (N ∷ zs)) (ap (λ (zs : List Node). D.before ++ zs) (sym (append_assoc (D.node ∷ D.below) D.after D.back)) ∙ sym (append_assoc D.before ((D.node ∷ D.below) ++ D.after) D.back)))
      ∙ subterm-split kids_of C.front (N ∷ (D.before ++ ((D.node ∷ D.below) ++ D.after))) D.back q C.at one

-- with two children, the second one
module _ (ns : List Node) (q : ℕ) (N : Node) (key : Key) (t : IsKeyedTerm ns) (C : ChildAt ns q N 1 key) (two : N.kids ≡ 2) where
  E : Child C.rest N.kids 1 key
  E = C.child

  abbrev pub low-at : ℕ
  low-at = suc (q + length C.child.before)

  first-span : span kids_of 1 (drop (q + 1) ns) ≡ length C.child.before
  first-span = ap (λ (zs : List Node). span kids_of 1 zs) (rest-is ns q N 1 key t C) ∙ span-append kids_of 1 C.child.before ((C.child.node ∷ C.child.below) ++ (C.child.after ++ C.child.back)) C.child.before_terms

  pub first-term : get_or (terms kids_of 2 (drop (q + 1) ns)) 0 [] ≡ C.child.before
  first-term =
      ap (λ (k : ℕ). take k (drop (q + 1) ns)) first-span ∙ ap (λ (zs : List Node). take (length C.child.before) zs) (rest-is ns q N 1 key t C)
      ∙ take-front C.child.before ((C.child.node ∷ C.child.below) ++ (C.child.after ++ C.child.back))

  pub second-term : get_or (terms kids_of 2 (drop (q + 1) ns)) 1 [] ≡ C.child.node ∷ C.child.below
  second-term =
      let us : List Node = (C.child.node ∷ C.child.below) ++ (C.child.after ++ C.child.back) in
      let d : drop (span kids_of 1 (drop (q + 1) ns)) (drop (q + 1) ns) ≡ us =
      ap (λ (k : ℕ). drop k (drop (q + 1) ns)) first-span ∙ ap (λ (zs : List Node). drop (length C.child.before) zs) (rest-is ns q N 1 key t C) ∙ drop-front C.child.before us in
      ap (λ (zs : List Node). take (span kids_of 1 zs) zs) d
      ∙ ap (λ (k : ℕ). take k us) (span-append kids_of 1 (C.child.node ∷ C.child.below) (C.child.after ++ C.child.back) (one_low ns q N 1 key t C))
      ∙ take-front (C.child.node ∷ C.child.below) (C.child.after ++ C.child.back)

  -- the second child in the node's place
  pub lifted-is : with_subterm kids_of (without_term ns N.key low-at) q (subterm kids_of ns low-at) ≡ lifted_nodes ns q
  lifted-is =
      detaching ns q low-at N 1 key t C (child-there ns q N 1 key C low-at refl) (subterm kids_of ns low-at)
      ∙ ap (λ (ms : List Node). with_subterm kids_of ns q ms) (low-subterm ns q N 1 key t C ∙ sym second-term)

  nothing-after : C.child.after ≡ []
  nothing-after = none C.child.after (subst (λ (n : ℕ). AreTerms kids_of n C.child.after) (let z : C.child.more ≡ 0 = omega (arith, C.child.many, two) in z) C.child.after_terms)
    where
      none : (xs : List Node) → AreTerms kids_of 0 xs → xs ≡ []
      none [] u = refl
      none (x ∷ xs) u = absurd u

  pub two-terms : subterm kids_of ns q ≡ N ∷ (get_or (terms kids_of 2 (drop (q + 1) ns)) 0 [] ++ get_or (terms kids_of 2 (drop (q + 1) ns)) 1 [])
  two-terms =
      node-subterm ns q N 1 key t C ∙ ap (λ (zs : List Node). N ∷ (C.child.before ++ ((C.child.node ∷ C.child.below) ++ zs))) nothing-after
      ∙ ap (λ (zs : List Node). N ∷ (C.child.before ++ zs)) (append-nil (C.child.node ∷ C.child.below))
      ∙ ap (λ (zs : List Node). N ∷ (zs ++ (C.child.node ∷ C.child.below))) (sym first-term) ∙ ap (λ (zs : List Node). N ∷ (get_or (terms kids_of 2 (drop (q + 1) ns)) 0 [] ++ zs)) (sym second-term)

  pub second-is-term : AreTerms kids_of 1 (get_or (terms kids_of 2 (drop (q + 1) ns)) 1 [])
  second-is-term = subst (λ (zs : List Node). AreTerms kids_of 1 zs) (sym second-term) (one_low ns q N 1 key t C)

  -- what is left of the node
  pub left-is : subterm kids_of (without_term ns N.key low-at) q ≡ record N { kids = 1 } ∷ get_or (terms kids_of 2 (drop (q + 1) ns)) 0 []
  left-is =
      let M : Node = record N { kids = N.kids + 0 - 1 } in
      let M1 : Node = record N { kids = 1 } in
      let k : N.kids + 0 - 1 ≡ 1 = omega (arith, two) in
      let k1 : 1 ≡ N.kids + 0 - 1 + 0 = omega (arith, two) in
      let one : AreTerms kids_of 1 (M ∷ C.child.before) = subst (λ (n : ℕ). AreTerms kids_of n C.child.before) k1 C.child.before_terms in
      ap (λ (zs : List Node). subterm kids_of zs q) (without-is ns q N 1 key t C ∙ ap (λ (xs : List Node). C.front ++ (M ∷ (C.child.before ++ (xs ++ C.child.back)))) nothing-after)
      ∙ subterm-split kids_of C.front (M ∷ C.child.before) C.child.back q C.at one
      ∙ ap (λ (m : ℕ). let n : Node = record N { kids = m } in n ∷ C.child.before) k ∙ ap (λ (zs : List Node). M1 ∷ zs) (sym first-term)

-- the second child once it was taken out
module _ (a b : Terms) (at second : Key) (S : IsSound a) (x : At a at) (N : Node) (node : slice_get x.nodes x.place ≡ Some N) (two : N.kids ≡ 2) (sec : slice_get (kids_in x.nodes x.place) 1 ≡ Some second)
    (moved : (y : At a second) (up : Key) (i : ℕ) → parent_in y.nodes y.place ≡ Some (up, i) → term_at b y.root ≡ Some (without_term y.nodes up y.place))
    (freed : (y : At a second) → term_at b second.number ≡ Some (subterm kids_of y.nodes y.place))
    (others : (y : At a second) (r : ℕ) → r ≢ y.root → r ≢ second.number → term_at b r ≡ term_at a r) where
  kt : IsKeyedTerm x.nodes
  kt = keyed-term a x.root x.nodes S x.stands

  pub apart : ChildAt x.nodes x.place N 1 second
  apart = child_apart x.nodes x.place N 1 second kt node sec

  abbrev pub place : ℕ
  place = suc (x.place + length apart.child.before)

  abbrev pub second-at : At a second
  second-at = record { root = x.root; nodes = x.nodes; place = place; stands = x.stands; there = child-there x.nodes x.place N 1 second apart place refl }

  named : N.key ≡ at
  named = one (key_in x.nodes x.place) (node-key x.nodes x.place N node) x.there
    where
      one : (o : Option Key) → o ≡ Some N.key → o ≡ Some at → N.key ≡ at
      one o e f = cc

  pub detached : term_at b x.root ≡ Some (without_term x.nodes N.key place)
  detached = moved second-at N.key 2 (child-parent x.nodes x.place N 1 second apart place refl)

  pub stays : key_in (without_term x.nodes N.key place) x.place ≡ Some at
  stays = (keys_stay x.nodes N.key second place x.place (child-there x.nodes x.place N 1 second apart place refl) (omega arith)).0 ∙ x.there

  abbrev pub at-left : At b at
  at-left = record { root = x.root; nodes = without_term x.nodes N.key place; place = x.place; stands = detached; there = stays }

  pub second-stands : term_at b second.number ≡ Some (subterm kids_of x.nodes place)
  second-stands = freed second-at

  pub second-inner : (r : ℕ) → IsSome (term_at a r) → r ≢ second.number
  second-inner r s = no-root a second r S second-at (omega arith) s

  pub mid-changed : (roots : List Key) (i : ℕ) (k : Key) → AreHeld a roots → slice_get roots i ≡ Some k → x.root ≡ k.number → Changed a b roots roots i (without_term x.nodes N.key place)
  mid-changed roots i k H e f =
      changed-one a b roots i k (without_term x.nodes N.key place) H e (ap (λ (r : ℕ). term_at b r) (sym f) ∙ detached) (λ s h d. others second-at s (λ z. d (z ∙ f)) (second-inner s h))

  pub lifted-nodes : with_subterm kids_of (without_term x.nodes N.key place) x.place (subterm kids_of x.nodes place) ≡ lifted_nodes x.nodes x.place
  lifted-nodes = lifted-is x.nodes x.place N second kt apart two

  pub left-nodes : subterm kids_of (without_term x.nodes N.key place) x.place ≡ record N { kids = 1 } ∷ get_or (terms kids_of 2 (drop (x.place + 1) x.nodes)) 0 []
  left-nodes = left-is x.nodes x.place N second kt apart two
