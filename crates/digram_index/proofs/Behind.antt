-- The place behind a term, found by climbing.
use Rattle.std.proofs.Common.{◌≡◌, ℕ, zero, suc, ◌+◌, ◌<◌, ◌≤◌, List, [], ◌∷◌, ◌++◌, length, drop, Option, Some, None, IsSome, is_some, true, false, slice_get, refl, sym, ap, ◌∙◌, subst, arith, length-append, append_assoc}
use Rattle.rule_arena.specs.Preorder.{AreTerms, span}
use Rattle.rule_arena.specs.Terms.{Node, key_in, kids_in, kids_of, parent_in}
use Rattle.rule_arena.specs.Children.{Child, ChildAt}
use Rattle.rule_arena.specs.Laws.{IsKeyedTerm}
use Rattle.rule_arena.specs.declared.key.Key.{Key}
use Rattle.rule_arena.proofs.ChildLemmas.{child_place, length-kids}
use Rattle.rule_arena.proofs.NodeLemmas.{node_of}
use Rattle.rule_arena.proofs.PreorderLemmas.{AreTerms-append, span-all, span-append}
use Rattle.rule_arena.proofs.TakingLaws.{child_apart}
use Rattle.slt_grammar.specs.Keyed.{Keyed, IsKeyed, key_at, nodes_at}
use Rattle.slt_grammar.proofs.KeyedLemmas.{key_at-within, nodes-are-term}
use Rattle.slt_grammar.proofs.Parents.{child-there, parent-inner}
use Rattle.digram_index.proofs.Climbs.{all_before, climbs}
use Rattle.digram_index.proofs.Kids.{IsChildOf, child-of}
use Rattle.digram_index.specs.Copies.{end_of}

drop-front : (xs ys : List Node) (p : ℕ) → length xs ≡ p → drop p (xs ++ ys) ≡ ys
drop-front [] ys zero e = refl
drop-front [] ys (suc p) e = absurd (omega (arith, e))
drop-front (x ∷ xs) ys zero e = absurd (omega (arith, e))
drop-front (x ∷ xs) ys (suc p) e = drop-front xs ys p (omega (arith, e))

-- a term ends behind its nodes
end-is : (ns front ys back : List Node) (p : ℕ) → ns ≡ front ++ (ys ++ back) → length front ≡ p → AreTerms kids_of 1 ys → end_of ns p ≡ p + length ys
end-is ns front ys back p e l t =
    ap (λ (zs : List Node). p + span kids_of 1 zs) (ap (λ (zs : List Node). drop p zs) e ∙ drop-front front (ys ++ back) p l) ∙ ap (λ (k : ℕ). p + k) (span-append kids_of 1 ys back t)

one-more : (n : Node) (xs : List Node) → AreTerms kids_of n.kids xs → AreTerms kids_of 1 (n ∷ xs)
one-more n xs t = let z : n.kids ≡ n.kids + 0 = omega arith in subst (λ (k : ℕ). AreTerms kids_of k xs) z t

-- a node below its parent
module _ (ns : List Node) (t : IsKeyedTerm ns) (q : ℕ) (N : Node) (i : ℕ) (key : Key) (there : slice_get ns q ≡ Some N) (is_child : slice_get (kids_in ns q) i ≡ Some key) (p : ℕ) (here : key_in ns p ≡ Some key) where
  C : ChildAt ns q N i key
  C = child_apart ns q N i key t there is_child

  abbrev D : Child C.rest N.kids i key
  D = C.child

  place : p ≡ suc (q + length D.before)
  place = child_place ns q N i key C p here (λ a b x y. t.once a b key x y)

  low-end : end_of ns p ≡ p + suc (length D.below)
  low-end =
      end-is ns (C.front ++ (N ∷ D.before)) (D.node ∷ D.below) (D.after ++ D.back) p
      (C.split ∙ ap (λ (zs : List Node). C.front ++ (N ∷ zs)) D.split ∙ sym (append_assoc C.front (N ∷ D.before) ((D.node ∷ D.below) ++ (D.after ++ D.back))))
      (omega (arith, length-append C.front (N ∷ D.before), C.at, place)) (one-more D.node D.below D.below_terms)

  abbrev kids-nodes : List Node
  kids-nodes = D.before ++ ((D.node ∷ D.below) ++ D.after)

  kids-terms : AreTerms kids_of N.kids kids-nodes
  kids-terms =
      let z : i + (1 + D.more) ≡ N.kids = let m = D.many in omega (arith, m) in
      subst (λ (k : ℕ). AreTerms kids_of k kids-nodes) z
      (AreTerms-append kids_of i (1 + D.more) D.before ((D.node ∷ D.below) ++ D.after) D.before_terms
      (AreTerms-append kids_of 1 D.more (D.node ∷ D.below) D.after (one-more D.node D.below D.below_terms) D.after_terms))

  high-end : end_of ns q ≡ q + suc (length D.before + (suc (length D.below) + length D.after))
  high-end =
      end-is ns C.front (N ∷ kids-nodes) D.back q
      (C.split ∙ ap (λ (zs : List Node). C.front ++ (N ∷ zs)) (D.split ∙ ap (λ (zs : List Node). D.before ++ zs) (sym (append_assoc (D.node ∷ D.below) D.after D.back)) ∙ sym (append_assoc D.before ((D.node ∷ D.below) ++ D.after) D.back)))
      C.at (one-more N kids-nodes kids-terms)
      ∙ ap (λ (k : ℕ). q + suc k) (length-append D.before ((D.node ∷ D.below) ++ D.after) ∙ ap (λ (k : ℕ). length D.before + k) (length-append (D.node ∷ D.below) D.after))

  -- behind it stands the next child
  pub sibling : (y : Key) → slice_get (kids_in ns q) (suc i) ≡ Some y → key_in ns (end_of ns p) ≡ Some y
  sibling y e =
      let E = child_apart ns q N (suc i) y t there e in
      let F = E.child in
      let first : span kids_of (suc i) E.rest ≡ length F.before = ap (λ (zs : List Node). span kids_of (suc i) zs) F.split ∙ span-append kids_of (suc i) F.before ((F.node ∷ F.below) ++ (F.after ++ F.back)) F.before_terms in
      let u : i + 1 ≡ suc i = omega arith in
      let b : AreTerms kids_of (suc i) (D.before ++ (D.node ∷ D.below)) =
      subst (λ (k : ℕ). AreTerms kids_of k (D.before ++ (D.node ∷ D.below))) u (AreTerms-append kids_of i 1 D.before (D.node ∷ D.below) D.before_terms (one-more D.node D.below D.below_terms)) in
      let second : span kids_of (suc i) C.rest ≡ length (D.before ++ (D.node ∷ D.below)) =
      ap (λ (zs : List Node). span kids_of (suc i) zs) (D.split ∙ sym (append_assoc D.before (D.node ∷ D.below) (D.after ++ D.back))) ∙ span-append kids_of (suc i) (D.before ++ (D.node ∷ D.below)) (D.after ++ D.back) b in
      let rests : E.rest ≡ C.rest = same-rest E.front C.front E.rest C.rest (sym E.split ∙ C.split) (E.at ∙ sym C.at) in
      child-there ns q N (suc i) y E (end_of ns p)
      (omega (arith, low-end, place, first, second, ap (λ (zs : List Node). span kids_of (suc i) zs) rests, length-append D.before (D.node ∷ D.below)))
    where
      same-rest : (xs ys us vs : List Node) → xs ++ (N ∷ us) ≡ ys ++ (N ∷ vs) → length xs ≡ length ys → us ≡ vs
      same-rest [] [] us vs e l = cc
      same-rest [] (y ∷ ys) us vs e l = absurd (omega (arith, l))
      same-rest (x ∷ xs) [] us vs e l = absurd (omega (arith, l))
      same-rest (x ∷ xs) (y ∷ ys) us vs e l = same-rest xs ys us vs (let z : x ∷ (xs ++ (N ∷ us)) ≡ y ∷ (ys ++ (N ∷ vs)) = e in cc) (omega (arith, l))

  -- the last child ends where its parent does
  pub last-child : slice_get (kids_in ns q) (suc i) ≡ None → end_of ns q ≡ end_of ns p
  last-child e =
      let m : length (kids_in ns q) ≡ N.kids = length-kids 1 ns q N t.term there in
      let o : length (kids_in ns q) ≤ suc i = past (kids_in ns q) (suc i) e in
      let none : D.more ≡ 0 = let x = D.many in omega (arith, m, o, x) in
      let empty : length D.after ≡ 0 = nothing D.after (subst (λ (k : ℕ). AreTerms kids_of k D.after) none D.after_terms) in
      omega (arith, high-end, low-end, place, empty)
    where
      past : (ks : List Key) (j : ℕ) → slice_get ks j ≡ None → length ks ≤ j
      past [] j e = omega arith
      past (k ∷ ks) zero e = absurd (let z : Some k ≡ None = e in cc)
      past (k ∷ ks) (suc j) e = omega (arith, past ks j e)

      nothing : (xs : List Node) → AreTerms kids_of 0 xs → length xs ≡ 0
      nothing [] t = refl
      nothing (x ∷ xs) t = absurd t

-- the term of a node on the way up ends where that of the key does
pub record IsClimbing (g : Keyed) (key : Key) (above : Option (Key × ℕ)) : Type 0 where
  pub rule : ℕ
  pub place : ℕ
  pub here : ℕ
  pub there : key_at g.rules rule place ≡ Some key
  pub within : here < length (nodes_at g.rules rule)
  pub is_parent : parent_in (nodes_at g.rules rule) here ≡ above
  pub same_end : end_of (nodes_at g.rules rule) here ≡ end_of (nodes_at g.rules rule) place

-- a measure that falls on the way up
abbrev pub height : Keyed → Option (Key × ℕ) → ℕ
height g None = 0
height g (Some link) = suc (all_before g.rules link.0.number)

module _ (g : Keyed) (K : IsKeyed g) (key : Key) where
  pub climbing-begins : (r p : ℕ) (above : Option (Key × ℕ)) → key_at g.rules r p ≡ Some key → parent_in (nodes_at g.rules r) p ≡ above → IsClimbing g key above
  climbing-begins r p above e f = record { rule = r; place = p; here = p; there = e; within = (key_at-within g.rules r p key e).1; is_parent = f; same_end = refl }

  -- the key's place is where it stands
  answer : (above : Option (Key × ℕ)) (I : IsClimbing g key above) (result : Option Key) → key_at g.rules I.rule (end_of (nodes_at g.rules I.rule) I.place) ≡ result
      → (r p : ℕ) → key_at g.rules r p ≡ Some key → key_at g.rules r (end_of (nodes_at g.rules r) p) ≡ result
  answer above I result e r p k =
      let o = K.once key r p I.rule I.place k I.there in
      ap (λ (x : ℕ). key_at g.rules x (end_of (nodes_at g.rules x) p)) o.0 ∙ ap (λ (x : ℕ). key_at g.rules I.rule (end_of (nodes_at g.rules I.rule) x)) o.1 ∙ e

  keyed-term : (r p : ℕ) (k : Key) → key_at g.rules r p ≡ Some k → IsKeyedTerm (nodes_at g.rules r)
  keyed-term r p k e = record {
    term = nodes-are-term g K r (key_at-within g.rules r p k e).0;
    once = λ i j m a b. (K.once m r i r j a b).1;
  }

  -- without a parent it is the root, which ends last
  pub climbing-ends : (I : IsClimbing g key None) → (r p : ℕ) → key_at g.rules r p ≡ Some key → key_at g.rules r (end_of (nodes_at g.rules r) p) ≡ None
  climbing-ends I =
      answer None I None (ap (λ (x : ℕ). key_in (nodes_at g.rules I.rule) x) (sym I.same_end ∙ ap (end_of (nodes_at g.rules I.rule)) root ∙ whole) ∙ none (nodes_at g.rules I.rule))
    where
      none : (xs : List Node) → key_in xs (length xs) ≡ None
      none [] = refl
      none (x ∷ xs) = none xs

      T : IsKeyedTerm (nodes_at g.rules I.rule)
      T = keyed-term I.rule I.place key I.there

      whole : end_of (nodes_at g.rules I.rule) 0 ≡ length (nodes_at g.rules I.rule)
      whole = omega (arith, span-all kids_of 1 (nodes_at g.rules I.rule) T.term)

      root : I.here ≡ 0
      root = at I.here refl
        where
          at : (h : ℕ) → I.here ≡ h → I.here ≡ 0
          at zero e = e
          at (suc h) e =
              let s = parent-inner (nodes_at g.rules I.rule) I.here T.term I.within (omega (arith, e)) in
              absurd (let z : IsSome {T = Key × ℕ} None = subst (λ (x : Option (Key × ℕ)). IsSome x) I.is_parent s in cc)

  module _ (up : Key) (c : ℕ) (I : IsClimbing g key (Some (up, c))) where
    abbrev ns : List Node
    ns = nodes_at g.rules I.rule

    low : (k : Key) × (key_at g.rules I.rule I.here ≡ Some k)
    low = key_in-there' (nodes_at g.rules I.rule) I.here I.within
      where
        key_in-there' : (xs : List Node) (p : ℕ) → p < length xs → (k : Key) × (key_in xs p ≡ Some k)
        key_in-there' [] p h = absurd (omega (arith, h))
        key_in-there' (x ∷ xs) zero h = (x.key, refl)
        key_in-there' (x ∷ xs) (suc p) h = key_in-there' xs p (omega (arith, h))

    T : IsKeyedTerm ns
    T = keyed-term I.rule I.place key I.there

    O : IsChildOf ns I.here (up, c)
    O = child-of ns I.here (up, c) T.term I.is_parent

    pub above-stands : (r : ℕ) × ((p : ℕ) × (key_at g.rules r p ≡ Some up))
    above-stands = (I.rule, (O.above, O.there))

    high : (n : Node) × ((slice_get ns O.above ≡ Some n) × (n.key ≡ up))
    high = node_of ns O.above up O.there

    child : slice_get (kids_in ns O.above) O.child ≡ Some low.0
    child = O.is_child ∙ low.1

    pub climbing-finds : (next : Option Key) → ((r p : ℕ) → key_at g.rules r p ≡ Some up → slice_get (kids_in (nodes_at g.rules r) p) c ≡ next) → is_some next ≡ true
        → (r p : ℕ) → key_at g.rules r p ≡ Some key → key_at g.rules r (end_of (nodes_at g.rules r) p) ≡ next
    climbing-finds None is_next s = absurd (let z : false ≡ true = s in cc)
    climbing-finds (Some y) is_next s =
        answer (Some (up, c)) I (Some y) (ap (λ (x : ℕ). key_in ns x) (sym I.same_end)
        ∙ sibling ns T O.above high.0 O.child low.0 high.1.0 child I.here low.1 y (ap (λ (j : ℕ). slice_get (kids_in ns O.above) j) (sym O.place) ∙ is_next I.rule O.above O.there))

    module _ (next : Option Key) (parent : Option (Key × ℕ)) (is_next : (r p : ℕ) → key_at g.rules r p ≡ Some up → slice_get (kids_in (nodes_at g.rules r) p) c ≡ next)
        (is_parent : (r p : ℕ) → key_at g.rules r p ≡ Some up → parent_in (nodes_at g.rules r) p ≡ parent) where
      next-kid : (o : Option Key) → next ≡ o → slice_get (kids_in ns O.above) (suc O.child) ≡ o
      next-kid o e = ap (λ (j : ℕ). slice_get (kids_in ns O.above) j) (sym O.place) ∙ is_next I.rule O.above O.there ∙ e

      none : (o : Option Key) → is_some o ≡ false → o ≡ None
      none None e = refl
      none (Some k) e = absurd (let z : true ≡ false = e in cc)

      pub climbing-next : is_some next ≡ false → IsClimbing g key parent
      climbing-next e = record {
        rule = I.rule;
        place = I.place;
        here = O.above;
        there = I.there;
        within = let b = O.before in let w = I.within in omega (arith, b, w);
        is_parent = is_parent I.rule O.above O.there;
        same_end = last-child ns T O.above high.0 O.child low.0 high.1.0 child I.here low.1 (next-kid None (none next e)) ∙ I.same_end;
      }

      pub climbing-falls : height g parent < height g (Some (up, c))
      climbing-falls = at parent refl
        where
          at : (o : Option (Key × ℕ)) → parent ≡ o → height g o < height g (Some (up, c))
          at None z = omega arith
          at (Some v) z =
              let w = child-of ns O.above v T.term (is_parent I.rule O.above O.there ∙ z) in
              omega (arith, climbs g K I.rule O.above w.above up v.0 O.there w.there w.before)
