-- The last stop before a node of a body is one of its parent.
use Rattle.std.proofs.Common.{◌≡◌, ℕ, zero, suc, ◌+◌, ◌<◌, ◌≤◌, List, [], ◌∷◌, ◌++◌, length, get_or, refl, ap, sym, ◌∙◌, arith, append_assoc, append-nil, length-append, Option, None, Some, subst}
use Rattle.std.specs.Prelude.{slice_get}
use Rattle.rule_arena.specs.Preorder.{AreTerms, parents, places}
use Rattle.rule_arena.specs.Terms.{Node, kids_of, key_of, parent_in}
use Rattle.rule_arena.specs.declared.key.Key.{Key}
use Rattle.slt_grammar.specs.Keyed.{Keyed, IsKeyed, key_at, nodes_at}
use Rattle.slt_grammar.specs.Tours.{Stop, stop, opened_kids, once_closed}
use Rattle.slt_grammar.proofs.KeyedLemmas.{key_at-within, nodes-are-term}
use Rattle.slt_grammar.proofs.TourWalking.{node-key}
use Rattle.preorder_address.specs.Sites.{stops_before}
use Rattle.preorder_address.proofs.Listings.{length-opened}

module _ (ns : List Node) where
  -- the stops end with one of the parent, before the kid
  pub record LastStop (most : ℕ) (ms : List (Stop Node)) (up : Key × ℕ) : Type 0 where
    pub before : List (Stop Node)
    pub place : ℕ
    pub node : Node
    pub part : ℕ
    pub split : ms ≡ before ++ stop node part ∷ []
    pub there : slice_get ns place ≡ Some node
    pub early : place < most
    pub key : node.key ≡ up.0
    pub kid : up.1 ≡ part + 1
    pub within : part < node.kids

  abbrev pub EndsIn : ℕ → List (Stop Node) → Option (Key × ℕ) → Type 0
  EndsIn most ms None = ms ≡ []
  EndsIn most ms (Some up) = LastStop most ms up

  -- behind each open term but the last there is a stop of the next one's parent
  abbrev AreChained : ℕ → List (Option (Key × ℕ)) → List (List (Stop Node)) → Type 0
  AreChained most [] afters = Unit {0}
  AreChained most (u ∷ []) afters = Unit {0}
  AreChained most (u ∷ v ∷ ups) [] = ⊥
  AreChained most (u ∷ None ∷ ups) (a ∷ afters) = ⊥
  AreChained most (u ∷ Some v ∷ ups) (a ∷ afters) = LastStop most a v × AreChained most (Some v ∷ ups) afters

  later-last : (most most' : ℕ) → most ≤ most' → (ms : List (Stop Node)) (up : Key × ℕ) → LastStop most ms up → LastStop most' ms up
  later-last most most' h ms up l = record { before = l.before; place = l.place; node = l.node; part = l.part; split = l.split; there = l.there; early = omega (arith, h, l.early); key = l.key; kid = l.kid; within = l.within }

  front-last : (most : ℕ) (ms xs : List (Stop Node)) (up : Key × ℕ) → LastStop most ms up → LastStop most (xs ++ ms) up
  front-last most ms xs up l = record {
    before = xs ++ l.before;
    place = l.place;
    node = l.node;
    part = l.part;
    split = ap (λ zs. xs ++ zs) l.split ∙ sym (append_assoc xs l.before (stop l.node l.part ∷ []));
    there = l.there;
    early = l.early;
    key = l.key;
    kid = l.kid;
    within = l.within;
  }

  later-chained : (most most' : ℕ) → most ≤ most' → (ups : List (Option (Key × ℕ))) (afters : List (List (Stop Node))) → AreChained most ups afters → AreChained most' ups afters
  later-chained most most' h [] afters c = tt
  later-chained most most' h (u ∷ []) afters c = tt
  later-chained most most' h (u ∷ v ∷ ups) [] c = absurd c
  later-chained most most' h (u ∷ None ∷ ups) (a ∷ afters) c = absurd c
  later-chained most most' h (u ∷ Some v ∷ ups) (a ∷ afters) c = (later-last most most' h a v c.0, later-chained most most' h (Some v ∷ ups) afters c.1)

  module _ (here : ℕ) (x : Node) (is_here : slice_get ns here ≡ Some x) where
    own-last : (i j : ℕ) (xs : List (Stop Node)) → j ≡ i + 1 → i < x.kids → LastStop (suc here) (xs ++ stop x i ∷ []) (x.key, j)
    own-last i j xs e h = record { before = xs; place = here; node = x; part = i; split = refl; there = is_here; early = omega arith; key = refl; kid = e; within = h }

    opened-chained : (i n : ℕ) (u : Option (Key × ℕ)) (a : List (Stop Node)) (us : List (Option (Key × ℕ))) (behind : List (List (Stop Node))) → i + suc n ≡ x.kids → AreChained (suc here) (u ∷ us) (a ∷ behind)
        → AreChained (suc here) (places x.key (suc i) (suc n) ++ us) (opened_kids x (suc i) (suc n) a ++ behind)
    opened-chained i zero u a [] behind e c = tt
    opened-chained i zero u a (None ∷ us) behind e c = absurd c
    opened-chained i zero u a (Some v ∷ us) behind e c = (front-last (suc here) a (stop x (suc i) ∷ []) v c.0, c.1)
    opened-chained i (suc n) u a us behind e c = (own-last (suc i) (suc (suc i)) [] (omega arith) (omega arith), opened-chained (suc i) n u a us behind (omega arith) c)

  length-places : (key : Key) (i n : ℕ) (us : List (Option (Key × ℕ))) → length (places key i n ++ us) ≡ n + length us
  length-places key i zero us = omega arith
  length-places key i (suc n) us = omega (arith, length-places key (suc i) n us)

  no-terms : (n : ℕ) (xs : List Node) → n ≡ 0 → AreTerms kids_of n xs → length xs ≡ 0
  no-terms n [] e t = refl
  no-terms zero (x ∷ xs) e t = absurd t
  no-terms (suc n) (x ∷ xs) e t = absurd (omega arith)

  -- the stops before each node end with one of its parent
  parents-ended : (n here : ℕ) (ups : List (Option (Key × ℕ))) (afters : List (List (Stop Node))) (xs : List Node) (pre : List (Stop Node)) → AreTerms kids_of n xs → length ups ≡ n → length afters ≡ n
      → ((j : ℕ) → slice_get ns (here + j) ≡ slice_get xs j) → EndsIn here pre (get_or ups 0 None) → AreChained here ups afters → (p : ℕ) → p < length xs
      → EndsIn (here + p) (pre ++ stops_before afters xs p) (get_or (parents kids_of key_of ups xs) p None)
  parents-ended n here ups afters [] pre t l m hx e c p h = absurd (omega arith)
  parents-ended n here ups afters (x ∷ xs) pre t l m hx e c zero h =
      let z : here ≡ here + 0 = omega arith in
      subst (λ (m : ℕ). EndsIn m (pre ++ []) (get_or ups 0 None)) z (subst (λ (ms : List (Stop Node)). EndsIn here ms (get_or ups 0 None)) (sym (append-nil pre)) e)
  parents-ended zero here ups afters (x ∷ xs) pre t l m hx e c (suc p) h = absurd t
  parents-ended (suc n) here [] afters (x ∷ xs) pre t l m hx e c (suc p) h = absurd (omega arith)
  parents-ended (suc n) here (u ∷ us) [] (x ∷ xs) pre t l m hx e c (suc p) h = absurd (omega arith)
  parents-ended (suc n) here (u ∷ us) (a ∷ behind) (x ∷ xs) pre t l m hx e c (suc p) h =
      by_kids x.kids refl t (λ k ups' afters' pre' t' l' m' e' c'. parents-ended k (suc here) ups' afters' xs pre' t' l' m' inner e' c' p (omega arith))
    where
      is_here : slice_get ns here ≡ Some x
      is_here = let z : here ≡ here + 0 = omega arith in ap (slice_get ns) z ∙ hx 0

      more : AreChained (suc here) (u ∷ us) (a ∷ behind)
      more = later-chained here (suc here) (omega arith) (u ∷ us) (a ∷ behind) c

      inner : (j : ℕ) → slice_get ns (suc here + j) ≡ slice_get xs j
      inner j = let z : suc here + j ≡ here + suc j = omega arith in ap (slice_get ns) z ∙ hx (suc j)

      told : (ms : List (Stop Node)) (later : List (List (Stop Node))) (up : Option (Key × ℕ)) → EndsIn (suc here + p) ((pre ++ ms) ++ stops_before later xs p) up → EndsIn (here + suc p) (pre ++ (ms ++ stops_before later xs p)) up
      told ms later up e =
          let z : suc here + p ≡ here + suc p = omega arith in
          subst (λ (m : ℕ). EndsIn m (pre ++ (ms ++ stops_before later xs p)) up) z (subst (λ (zs : List (Stop Node)). EndsIn (suc here + p) zs up) (append_assoc pre ms (stops_before later xs p)) e)

      by_last : (vs : List (Option (Key × ℕ))) → length vs ≡ n → AreTerms kids_of (0 + n) xs → AreChained (suc here) (u ∷ vs) (a ∷ behind) → EndsIn (suc here) (pre ++ stop x 0 ∷ a) (get_or vs 0 None) × AreChained (suc here) vs behind
      by_last [] l t c = absurd (omega (arith, h, no-terms (0 + n) xs (omega (arith, l)) t))
      by_last (None ∷ vs) l t c = absurd c
      by_last (Some v ∷ vs) l t c = (front-last (suc here) (stop x 0 ∷ a) pre v (front-last (suc here) a (stop x 0 ∷ []) v c.0), c.1)

      by_kids : (k : ℕ) → x.kids ≡ k → AreTerms kids_of (k + n) xs
          → ((m : ℕ) (ups' : List (Option (Key × ℕ))) (afters' : List (List (Stop Node))) (pre' : List (Stop Node)) → AreTerms kids_of m xs → length ups' ≡ m → length afters' ≡ m → EndsIn (suc here) pre' (get_or ups' 0 None)
          → AreChained (suc here) ups' afters' → EndsIn (suc here + p) (pre' ++ stops_before afters' xs p) (get_or (parents kids_of key_of ups' xs) p None))
          → EndsIn (here + suc p) (pre ++ stop x 0 ∷ (once_closed k a ++ stops_before (opened_kids x 1 k a ++ behind) xs p)) (get_or (parents kids_of key_of (places x.key 1 k ++ us) xs) p None)
      by_kids zero d t ih =
          let b = by_last us (omega arith) t more in
          told (stop x 0 ∷ a) behind (get_or (parents kids_of key_of us xs) p None) (ih (0 + n) us behind (pre ++ stop x 0 ∷ a) t (omega arith) (omega arith) b.0 b.1)
      by_kids (suc k) d t ih =
          told (stop x 0 ∷ []) (opened_kids x 1 (suc k) a ++ behind) (get_or (parents kids_of key_of (places x.key 1 (suc k) ++ us) xs) p None)
          (ih (suc k + n) (places x.key 1 (suc k) ++ us) (opened_kids x 1 (suc k) a ++ behind) (pre ++ stop x 0 ∷ []) t (omega (arith, length-places x.key 1 (suc k) us))
          (omega (arith, length-append (opened_kids x 1 (suc k) a) behind, length-opened x 1 (suc k) a)) (own-last here x is_here 0 1 pre (omega arith) (omega arith)) (opened-chained here x is_here 0 k u a us behind (omega arith) more))

  pub parent-ends : AreTerms kids_of 1 ns → (p : ℕ) → p < length ns → EndsIn p (stops_before ([] ∷ []) ns p) (parent_in ns p)
  parent-ends t p h =
      let z : 0 + p ≡ p = omega arith in
      subst (λ (m : ℕ). EndsIn m (stops_before ([] ∷ []) ns p) (parent_in ns p)) z (parents-ended 1 0 (None ∷ []) ([] ∷ []) ns [] t refl refl (λ j. let z : 0 + j ≡ j = omega arith in ap (slice_get ns) z) refl tt p h)

-- of a node of a rule
module _ (g : Keyed) (K : IsKeyed g) (r p : ℕ) (key : Key) (e : key_at g.rules r p ≡ Some key) where
  pub ends-in : EndsIn (nodes_at g.rules r) p (stops_before ([] ∷ []) (nodes_at g.rules r) p) (parent_in (nodes_at g.rules r) p)
  ends-in = let h = key_at-within g.rules r p key e in parent-ends (nodes_at g.rules r) (nodes-are-term g K r h.0) p h.1

  module _ (up : Key × ℕ) (f : parent_in (nodes_at g.rules r) p ≡ Some up) where
    pub last-stop : LastStop (nodes_at g.rules r) p (stops_before ([] ∷ []) (nodes_at g.rules r) p) up
    last-stop = subst (λ (o : Option (Key × ℕ)). EndsIn (nodes_at g.rules r) p (stops_before ([] ∷ []) (nodes_at g.rules r) p) o) f ends-in

    pub up-there : key_at g.rules r last-stop.place ≡ Some up.0
    up-there = node-key (nodes_at g.rules r) last-stop.place last-stop.node last-stop.there ∙ ap Some last-stop.key
