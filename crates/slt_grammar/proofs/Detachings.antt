-- Terms that are taken out from between pieces, one after another.
use Rattle.std.proofs.Common.{◌≡◌, ◌≢◌, ◌⊎◌, inl, inr, ℕ, zero, suc, ◌+◌, ◌<◌, ◌≤◌, List, [], ◌∷◌, ◌++◌, length, get_or, drop, Option, Some, None, IsSome, slice_get, refl, sym, ap, ◌∙◌, subst, arith, append_assoc, length-append}
use Rattle.std.specs.List.{flat_map}
use Rattle.std.proofs.lemmas.Option.{slice_get_within}
use Rattle.std.proofs.lemmas.List.{append-nil}
use Rattle.std.proofs.lemmas.Bool.{cases_lt, cases_eq, cases_order}
use Rattle.rule_arena.specs.Preorder.{AreTerms, with_subterm, subterm}
use Rattle.rule_arena.specs.Terms.{Node, Terms, At, Apart, IsSound, term_at, key_in, or_nothing, kids_of}
use Rattle.rule_arena.specs.declared.key.Key.{Key}
use Rattle.rule_arena.proofs.PathLemmas.{key_in-left, key_in-right}
use Rattle.rule_arena.proofs.PreorderLemmas.{AreTerms-with, subterm-split, with_subterm-split}
use Rattle.slt_grammar.proofs.Growing.{some_none}
use Rattle.slt_grammar.proofs.Replacements.{no-root}
use Rattle.slt_grammar.specs.Holding.{terms_of}
use Rattle.slt_grammar.specs.Detaching.{AreArgs, Laced, Loosened, between}

abbrev pub flat : List (List Node) → List Node
flat = flat_map (λ zs. zs)

-- the term of a child
pub arg-at : (kids : List Key) (args : List (List Node)) (i : ℕ) (k : Key) → AreArgs kids args → slice_get kids i ≡ Some k
    → (arg : List Node) × (AreTerms kids_of 1 arg × (key_in arg 0 ≡ Some k) × (get_or args i [] ≡ arg) × (drop i args ≡ arg ∷ drop (i + 1) args))
arg-at [] args i k A e = absurd (cc)
arg-at (m ∷ ks) [] i k A e = absurd A
arg-at (m ∷ ks) (x ∷ args) zero k A e = let q : m ≡ k = cc in (x, (A.0, A.1 ∙ ap (λ (y : Key). Some y) q, refl, refl))
arg-at (m ∷ ks) (x ∷ args) (suc i) k A e =
    let h = arg-at ks args i k A.2 e in
    let s : suc i + 1 ≡ suc (i + 1) = omega arith in
    (h.0, (h.1.0, h.1.1, h.1.2, rw s h.1.3))

-- what stands round one of the terms between pieces
pub between-split : (w : List Node) (ws done rest : List (List Node)) → length done ≤ length ws
    → (xs : List Node) × (ys : List Node) × ((zs : List Node) → between (w ∷ ws) (done ++ zs ∷ rest) ≡ xs ++ (zs ++ ys)) × (length w ≤ length xs)
between-split w ws [] rest h = (w, between ws rest, λ zs. refl, omega arith)
between-split w [] (d ∷ done) rest h = absurd (omega arith)
between-split w (v ∷ ws) (d ∷ done) rest h =
    let ih = between-split v ws done rest (omega arith) in (
      w ++ (d ++ ih.0),
      ih.1,
      λ zs. ap (λ (us : List Node). w ++ (d ++ us)) (ih.2 zs) ∙ ap (λ (us : List Node). w ++ us) (sym (append_assoc d ih.0 (zs ++ ih.1))) ∙ sym (append_assoc w (d ++ ih.0) (zs ++ ih.1)),
      omega (arith, length-append w (d ++ ih.0)),
    )

-- one more term is so many more nodes
flat-more : (gs : List (List Node)) (l : List Node) → length (flat (gs ++ l ∷ [])) ≡ length (flat gs) + length l
flat-more [] l = ap length (append-nil l) ∙ sym (zero-plus (length l))
  where
    zero-plus : (n : ℕ) → 0 + n ≡ n
    zero-plus n = omega arith
flat-more (g ∷ gs) l = omega (arith, length-append g (flat (gs ++ l ∷ [])), length-append g (flat gs), flat-more gs l)

-- the first i terms were taken out
pub record Loosening (a b : Terms) (r : ℕ) (ns : List Node) (p : ℕ) (args : List (List Node)) (L : Laced ns p args) (keys : List Key) (i : ℕ) : Type 0 where
  pub leaves : List (List Node)
  pub count : length leaves ≡ i
  pub size : length (flat leaves) ≡ i
  pub one : AreTerms kids_of 1 (between ((L.begin ∷ L.first) ∷ L.more) (leaves ++ drop i args))
  pub rest : term_at b r ≡ Some (L.front ++ (between ((L.begin ∷ L.first) ∷ L.more) (leaves ++ drop i args) ++ L.back))
  pub given : (j : ℕ) (k : Key) → j < i → slice_get keys j ≡ Some k → term_at b k.number ≡ Some (get_or args j [])
  pub inner : (j : ℕ) (k : Key) → j < i → slice_get keys j ≡ Some k → (s : ℕ) → IsSome (term_at a s) → k.number ≢ s
  pub differ : (j m : ℕ) (k q : Key) → j < m → m < i → slice_get keys j ≡ Some k → slice_get keys m ≡ Some q → k.number ≢ q.number
  pub others : (s : ℕ) → IsSome (term_at a s) → s ≢ r → term_at b s ≡ term_at a s

pub none-loose : (a : Terms) (r : ℕ) (ns : List Node) (p : ℕ) (args : List (List Node)) (L : Laced ns p args) (keys : List Key)
    → term_at a r ≡ Some ns → Loosening a a r ns p args L keys 0
none-loose a r ns p args L keys e = record {
  leaves = [];
  count = refl;
  size = refl;
  one = L.one;
  rest = e ∙ ap (λ (xs : List Node). Some xs) L.whole;
  given = λ j k h f. absurd (omega arith);
  inner = λ j k h f. absurd (omega arith);
  differ = λ j m k q d h e f. absurd (omega arith);
  others = λ s t h. refl;
}

module _ (a b : Terms) (r : ℕ) (ns : List Node) (p : ℕ) (args : List (List Node)) (L : Laced ns p args) (keys : List Key) (i : ℕ) (k : Key)
    (D : Loosening a b r ns p args L keys i) (there : slice_get keys i ≡ Some k) (sound : IsSound b) (was : IsSome (term_at a r)) (few : i < length args)
    (here : List Node) (term : AreTerms kids_of 1 here) (head : key_in here 0 ≡ Some k) (is : get_or args i [] ≡ here) (more : drop i args ≡ here ∷ drop (i + 1) args) where
  abbrev pub around : (xs : List Node) × (ys : List Node) × ((zs : List Node) → between ((L.begin ∷ L.first) ∷ L.more) (D.leaves ++ zs ∷ drop (i + 1) args) ≡ xs ++ (zs ++ ys)) × (length (L.begin ∷ L.first) ≤ length xs)
  around = between-split (L.begin ∷ L.first) L.more D.leaves (drop (i + 1) args) (omega (arith, D.count, L.enough, few))

  abbrev pub behind : List Node
  behind = around.1 ++ L.back

  abbrev pub before : List Node
  before = L.front ++ around.0

  abbrev pub place : ℕ
  place = length before

  -- the nodes with a term in the place of this one
  filled : (zs : List Node) → L.front ++ (between ((L.begin ∷ L.first) ∷ L.more) (D.leaves ++ zs ∷ drop (i + 1) args) ++ L.back) ≡ before ++ (zs ++ behind)
  filled zs =
      ap (λ (xs : List Node). L.front ++ (xs ++ L.back)) (around.2 zs)
      ∙ ap (λ (xs : List Node). L.front ++ xs) (append_assoc around.0 (zs ++ around.1) L.back ∙ ap (λ (xs : List Node). around.0 ++ xs) (append_assoc zs around.1 L.back))
      ∙ sym (append_assoc L.front around.0 (zs ++ behind))

  pub nodes-are : L.front ++ (between ((L.begin ∷ L.first) ∷ L.more) (D.leaves ++ drop i args) ++ L.back) ≡ before ++ (here ++ behind)
  nodes-are = ap (λ (xs : List (List Node)). L.front ++ (between ((L.begin ∷ L.first) ∷ L.more) (D.leaves ++ xs) ++ L.back)) more ∙ filled here

  pub first-there : (x : Key) → key_in here 0 ≡ Some x → key_in (before ++ (here ++ behind)) place ≡ Some x
  first-there x e =
      let z : place + 0 ≡ place = omega arith in
      ap (λ (q : ℕ). key_in (before ++ (here ++ behind)) q) (sym z) ∙ key_in-right before (here ++ behind) 0 x (key_in-left here behind 0 x e)

  -- the term stands in the whole
  abbrev pub child : (x : At b k) × ((0 < x.place) × ((x.root ≡ r) × ((x.place ≡ place) × (x.nodes ≡ before ++ (here ++ behind)))))
  child = (
    record { root = r; nodes = before ++ (here ++ behind); place = place; stands = D.rest ∙ ap (λ (xs : List Node). Some xs) nodes-are; there = first-there k head },
    (omega (arith, length-append L.front around.0, around.3), (refl, (refl, refl))),
  )

  pub child-apart : k.number ≢ r
  child-apart h =
      let x = child.0 in
      let y : At b k = record { root = r; nodes = x.nodes; place = 0; stands = x.stands; there = sound.first r x.nodes x.stands ∙ ap (λ (m : ℕ). let z : Key = record { number = m } in Some z) (sym h) } in
      omega (arith, (sound.once k x y).1, child.1.0)

  -- it is still one term with a leaf here
  still-one : (leaf : Node) → leaf.kids ≡ 0 → AreTerms kids_of 1 (between ((L.begin ∷ L.first) ∷ L.more) (D.leaves ++ (leaf ∷ []) ∷ drop (i + 1) args))
  still-one leaf e =
      let l : List Node = leaf ∷ [] in
      let old : AreTerms kids_of 1 (around.0 ++ (here ++ around.1)) =
      subst (λ (xs : List Node). AreTerms kids_of 1 xs) (ap (λ (xs : List (List Node)). between ((L.begin ∷ L.first) ∷ L.more) (D.leaves ++ xs)) more ∙ around.2 here) D.one in
      let t : AreTerms kids_of 1 l = let z : leaf.kids + 0 ≡ 0 = omega (arith, e) in subst (λ (j : ℕ). AreTerms kids_of j []) (sym z) tt in
      let s = some here term in
      let w = AreTerms-with kids_of 1 (around.0 ++ (here ++ around.1)) (length around.0) l old (omega (arith, length-append around.0 (here ++ around.1), length-append here around.1, s)) t in
      subst (λ (xs : List Node). AreTerms kids_of 1 xs) (with_subterm-split kids_of around.0 here around.1 l (length around.0) refl term ∙ sym (around.2 l)) w.1
    where
      some : (xs : List Node) → AreTerms kids_of 1 xs → 0 < length xs
      some [] t = absurd t
      some (x ∷ xs) t = omega arith

  module _ (c : Terms) (moved : (x : At b k) → (leaf : Node) × ((leaf.kids ≡ 0) × (term_at c x.root ≡ Some (with_subterm kids_of x.nodes x.place (leaf ∷ [])))))
      (freed : (x : At b k) → term_at c k.number ≡ Some (subterm kids_of x.nodes x.place))
      (others : (x : At b k) (s : ℕ) → IsSome (term_at b s) → s ≢ x.root → term_at c s ≡ term_at b s) where
    -- the root stood
    root-stands : IsSome (term_at a r)
    root-stands = was

    pub one-looser : Loosening a c r ns p args L keys (i + 1)
    one-looser =
        let x = child.0 in
        let m = moved x in
        let l : List Node = m.0 ∷ [] in
        let z : (D.leaves ++ l ∷ []) ++ drop (i + 1) args ≡ D.leaves ++ l ∷ drop (i + 1) args = append_assoc D.leaves (l ∷ []) (drop (i + 1) args) in
        record {
          leaves = D.leaves ++ l ∷ [];
          count = omega (arith, length-append D.leaves (l ∷ []), D.count);
          size = omega (arith, flat-more D.leaves l, D.size);
          one = subst (λ (xs : List (List Node)). AreTerms kids_of 1 (between ((L.begin ∷ L.first) ∷ L.more) xs)) (sym z) (still-one m.0 m.1.0);
          rest = m.1.1 ∙ ap (λ (xs : List Node). Some xs)
              (with_subterm-split kids_of before here behind l place refl term ∙ sym (filled l)
              ∙ ap (λ (xs : List (List Node)). L.front ++ (between ((L.begin ∷ L.first) ∷ L.more) xs ++ L.back)) (sym z));
          given = λ j q w e. by j q (cases_lt j i) w e;
          inner = λ j q w e s t. in_by j q (cases_lt j i) w e s t (cases_eq s r);
          differ = λ j m p q d w e f. di_by j m p q (cases_lt m i) d w e f;
          others = λ s t d.
              let o = D.others s t d in
              others x s (subst (λ (u : Option (List Node)). IsSome u) (sym o) t) d ∙ o;
        }
      where
        same : (j : ℕ) (q : Key) → j < i + 1 → i ≤ j → slice_get keys j ≡ Some q → q ≡ k
        same j q w l e =
            let z : j ≡ i = omega arith in
            let u : slice_get keys i ≡ Some q = ap (λ (p : ℕ). slice_get keys p) (sym z) ∙ e in
            cc

        by : (j : ℕ) (q : Key) → (j < i) ⊎ (i ≤ j) → j < i + 1 → slice_get keys j ≡ Some q → term_at c q.number ≡ Some (get_or args j [])
        by j q (inl l) w e =
            let g = D.given j q l e in
            others child.0 q.number (subst (λ (u : Option (List Node)). IsSome u) (sym g) refl) (D.inner j q l e r root-stands) ∙ g
        by j q (inr l) w e =
            let z : j ≡ i = omega arith in
            ap (λ (x : Key). term_at c x.number) (same j q w l e) ∙ freed child.0
            ∙ ap (λ (xs : List Node). Some xs) (subterm-split kids_of before here behind place refl term ∙ sym is ∙ ap (λ (p : ℕ). get_or args p []) (sym z))

        in_by : (j : ℕ) (q : Key) → (j < i) ⊎ (i ≤ j) → j < i + 1 → slice_get keys j ≡ Some q → (s : ℕ) → IsSome (term_at a s) → (s ≡ r) ⊎ (s ≡ r → ⊥) → q.number ≢ s
        in_by j q (inl l) w e s t z = D.inner j q l e s t
        in_by j q (inr l) w e s t (inl z) = λ h. child-apart (ap (λ (x : Key). x.number) (sym (same j q w l e)) ∙ h ∙ z)
        in_by j q (inr l) w e s t (inr z) = λ h.
            no-root b k s sound child.0 child.1.0 (subst (λ (u : Option (List Node)). IsSome u) (sym (D.others s t z)) t) (sym h ∙ ap (λ (x : Key). x.number) (same j q w l e))

        di_by : (j m : ℕ) (p q : Key) → (m < i) ⊎ (i ≤ m) → j < m → m < i + 1 → slice_get keys j ≡ Some p → slice_get keys m ≡ Some q → p.number ≢ q.number
        di_by j m p q (inl l) d w e f = D.differ j m p q d l e f
        di_by j m p q (inr l) d w e f = λ h.
            no-root b k p.number sound child.0 child.1.0 (subst (λ (u : Option (List Node)). IsSome u) (sym (D.given j p (omega arith) e)) refl) (h ∙ ap (λ (x : Key). x.number) (same m q w l f))

-- all were taken out
pub all-loose : (a b : Terms) (r : ℕ) (ns : List Node) (p : ℕ) (args : List (List Node)) (L : Laced ns p args) (kids : List Key) (i : ℕ)
    → Loosening a b r ns p args L kids i → AreArgs kids args → i ≡ length kids → Loosened a b r ns p args L kids
all-loose a b r ns p args L kids i D A z =
    let e : drop i args ≡ [] = ap (λ (m : ℕ). drop m args) (z ∙ many kids args A) ∙ none args in
    let u : D.leaves ++ drop i args ≡ D.leaves = ap (λ (xs : List (List Node)). D.leaves ++ xs) e ∙ append-nil D.leaves in
    record {
      leaves = D.leaves;
      many = D.count ∙ z;
      size = D.size ∙ z;
      one = subst (λ (xs : List (List Node)). AreTerms kids_of 1 (between ((L.begin ∷ L.first) ∷ L.more) xs)) u D.one;
      rest = D.rest ∙ ap (λ (xs : List (List Node)). Some (L.front ++ (between ((L.begin ∷ L.first) ∷ L.more) xs ++ L.back))) u;
      roots = λ j k f. subst (λ (u : Option (List Node)). IsSome u) (sym (D.given j k (within j k f) f)) refl;
      distinct = λ j m k q f g h. elim (cases_order j m) [
        | inl z ↦ z
        | inr (inl l) ↦ absurd (D.differ j m k q l (within m q g) f g h)
        | inr (inr l) ↦ absurd (D.differ m j q k l (within j k f) g f (sym h))
      ];
      inner = λ j k f. D.inner j k (within j k f) f;
      given = all kids args A (λ j k f. D.given j k (within j k f) f);
      others = D.others;
    }
  where
    many : (ks : List Key) (xs : List (List Node)) → AreArgs ks xs → length ks ≡ length xs
    many [] [] A = refl
    many [] (x ∷ xs) A = absurd A
    many (k ∷ ks) [] A = absurd A
    many (k ∷ ks) (x ∷ xs) A = ap suc (many ks xs A.2)

    none : (xs : List (List Node)) → drop (length xs) xs ≡ []
    none [] = refl
    none (x ∷ xs) = none xs

    within : (j : ℕ) (k : Key) → slice_get kids j ≡ Some k → j < i
    within j k f = let w = slice_get_within kids j k f in omega arith

    all : (ks : List Key) (xs : List (List Node)) → AreArgs ks xs → ((j : ℕ) (k : Key) → slice_get ks j ≡ Some k → term_at b k.number ≡ Some (get_or xs j [])) → terms_of b ks ≡ xs
    all [] [] A g = refl
    all [] (x ∷ xs) A g = absurd A
    all (k ∷ ks) [] A g = absurd A
    all (k ∷ ks) (x ∷ xs) A g =
        let h : or_nothing (term_at b k.number) ≡ x = ap or_nothing (g 0 k refl) in
        rw (h, all ks xs A.2 (λ j m f. g (suc j) m f)) refl

-- a new leaf leaves the other terms
module _ (a b : Terms) (at leaf : Key) (vacant : term_at a leaf.number ≡ None) (others : (r : ℕ) → r ≢ leaf.number → Apart [] r → term_at b r ≡ term_at a r) where
  pub not-leaf : (r : ℕ) → IsSome (term_at a r) → r ≢ leaf.number
  not-leaf r s h = some_none (term_at a r) s (ap (λ (m : ℕ). term_at a m) h ∙ vacant)

  pub still : (r : ℕ) → IsSome (term_at a r) → term_at b r ≡ term_at a r
  still r s = others r (not-leaf r s) (λ i k e. absurd (cc))

  pub stands-some : (x : At a at) → IsSome (term_at a x.root)
  stands-some x = subst (λ (t : Option (List Node)). IsSome t) (sym x.stands) refl

  abbrev pub at-still : (x : At a at) → At b at
  at-still x = record { root = x.root; nodes = x.nodes; place = x.place; stands = still x.root (stands-some x) ∙ x.stands; there = x.there }
