-- What a lift leaves: all nodes but the node, those of its first child, and its second child tell the same.
use Rattle.std.proofs.Common.{◌≡◌, ◌≢◌, ◌⊎◌, inl, inr, ℕ, zero, suc, ◌+◌, ◌-◌, ◌<◌, ◌≤◌, List, [], ◌∷◌, ◌++◌, length, get_or, drop, Some, None, slice_get, refl, sym, ap, ◌∙◌, subst, arith, append_assoc}
use Rattle.std.proofs.lemmas.Bool.{cases_eq}
use Rattle.rule_arena.specs.Children.{ChildAt}
use Rattle.rule_arena.specs.Laws.{IsKeyedTerm}
use Rattle.rule_arena.specs.Preorder.{AreTerms, with_subterm, places}
use Rattle.rule_arena.specs.Terms.{Node, key_in, kids_in, kids_of, parent_in}
use Rattle.rule_arena.specs.declared.key.Key.{Key}
use Rattle.rule_arena.proofs.NodeLemmas.{key_of_node, node_of, same_key}
use Rattle.rule_arena.proofs.PreorderLemmas.{AreTerms-append, slice_get-right, with_subterm-split}
use Rattle.rule_arena.proofs.TakingLaws.{child_apart}
use Rattle.slt_grammar.specs.Algebras.{ranks_of}
use Rattle.slt_grammar.specs.Holding.{IsLawful}
use Rattle.slt_grammar.specs.Keyed.{Keyed, KeyedRule, IsKeyed, key_at, nodes_at, rules_of}
use Rattle.slt_grammar.specs.KeyedEdits.{lifted_nodes, with_nodes}
use Rattle.slt_grammar.proofs.KeyedEdits.{length-with_nodes, nodes-others, nodes-with_nodes, ranks-with}
use Rattle.slt_grammar.proofs.KeyedLemmas.{key_at-within, nodes-are-term}
use Rattle.slt_grammar.proofs.Lifted.{second-term}
use Rattle.digram_index.specs.Keeping.{IsNear, TellsSame}
use Rattle.digram_index.proofs.Apartness.{one-key}
use Rattle.digram_index.proofs.OpenPlaces.{Opens, behind-terms, open_behind, ups}
use Rattle.digram_index.proofs.Sides.{Side, first, second, side}
use Rattle.linked_edits.specs.Runs.{IsBetween, start_of}
use Rattle.linked_edits.proofs.Parts.{AreSplit, split}

-- a node with two children, in parts
pub record IsCut (ns : List Node) (p : ℕ) (N : Node) (key : Key) : Type 0 where
  pub front : List Node
  pub before : List Node
  pub low : Node
  pub rest : List Node
  pub split : ns ≡ front ++ (N ∷ (before ++ (low ∷ rest)))
  pub at : length front ≡ p
  pub one : AreTerms kids_of 1 before
  pub named : low.key ≡ key
  pub lifted : lifted_nodes ns p ≡ front ++ (low ∷ rest)

none : (xs : List Node) → AreTerms kids_of 0 xs → xs ≡ []
none [] u = refl
none (x ∷ xs) u = absurd u

pub cut : (ns : List Node) (p : ℕ) (N : Node) (key : Key) → IsKeyedTerm ns → slice_get ns p ≡ Some N → N.kids ≡ 2 → slice_get (kids_in ns p) 1 ≡ Some key → IsCut ns p N key
cut ns p N key t e two sec = record {
  front = C.front;
  before = C.child.before;
  low = C.child.node;
  rest = C.child.below ++ C.child.back;
  split = whole;
  at = C.at;
  one = C.child.before_terms;
  named = C.child.named;
  lifted = up;
}
  where
    C : ChildAt ns p N 1 key
    C = child_apart ns p N 1 key t e sec

    after : C.child.after ≡ []
    after = none C.child.after (subst (λ (n : ℕ). AreTerms kids_of n C.child.after) (let z : C.child.more ≡ 0 = omega (arith, C.child.many, two) in z) C.child.after_terms)

    whole : ns ≡ C.front ++ (N ∷ (C.child.before ++ (C.child.node ∷ (C.child.below ++ C.child.back))))
    whole =
        C.split ∙ ap (λ (zs : List Node). C.front ++ (N ∷ zs)) C.child.split
        ∙ ap (λ (zs : List Node). C.front ++ (N ∷ (C.child.before ++ ((C.child.node ∷ C.child.below) ++ (zs ++ C.child.back))))) after

    mid : List Node
    mid = N ∷ (C.child.before ++ (C.child.node ∷ C.child.below))

    one-low : AreTerms kids_of 1 (C.child.node ∷ C.child.below)
    one-low = let z : C.child.node.kids ≡ C.child.node.kids + 0 = omega arith in subst (λ (n : ℕ). AreTerms kids_of n C.child.below) z C.child.below_terms

    one-mid : AreTerms kids_of 1 (N ∷ (C.child.before ++ (C.child.node ∷ C.child.below)))
    one-mid =
        let z : 1 + 1 ≡ N.kids + 0 = omega (arith, two) in
        subst (λ (n : ℕ). AreTerms kids_of n (C.child.before ++ (C.child.node ∷ C.child.below))) z
        (AreTerms-append kids_of 1 1 C.child.before (C.child.node ∷ C.child.below) C.child.before_terms one-low)

    grouped : ns ≡ C.front ++ ((N ∷ (C.child.before ++ (C.child.node ∷ C.child.below))) ++ C.child.back)
    grouped = whole ∙ ap (λ (zs : List Node). C.front ++ (N ∷ zs)) (sym (append_assoc C.child.before (C.child.node ∷ C.child.below) C.child.back))

    up : lifted_nodes ns p ≡ C.front ++ (C.child.node ∷ (C.child.below ++ C.child.back))
    up =
        ap (λ (ms : List Node). with_subterm kids_of ns p ms) (second-term ns p N key t C two)
        ∙ ap (λ (us : List Node). with_subterm kids_of us p (C.child.node ∷ C.child.below)) grouped
        ∙ with_subterm-split kids_of C.front (N ∷ (C.child.before ++ (C.child.node ∷ C.child.below))) C.child.back (C.child.node ∷ C.child.below) p C.at one-mid

-- where the nodes stood, and which parents they had
module _ (ns ms : List Node) (p : ℕ) (N : Node) (key : Key) (U : IsCut ns p N key) (lift : ms ≡ lifted_nodes ns p) where
  -- how many places behind the node its second child stands
  abbrev pub gap : ℕ
  gap = suc (length U.before)

  abbrev os : Opens
  os = open_behind (None ∷ []) U.front

  now : ms ≡ U.front ++ (U.low ∷ U.rest)
  now = lift ∙ U.lifted

  old-parts : AreSplit (None ∷ []) ns U.front (N ∷ (U.before ++ (U.low ∷ U.rest)))
  old-parts = split (None ∷ []) ns U.front (N ∷ (U.before ++ (U.low ∷ U.rest))) U.split

  new-parts : AreSplit (None ∷ []) ms U.front (U.low ∷ U.rest)
  new-parts = split (None ∷ []) ms U.front (U.low ∷ U.rest) now

  -- the places that are open behind the node
  abbrev under : Opens
  under = places N.key 1 N.kids ++ drop 1 (open_behind (None ∷ []) U.front)

  inner : AreSplit (places N.key 1 N.kids ++ drop 1 (open_behind (None ∷ []) U.front)) (U.before ++ (U.low ∷ U.rest)) U.before (U.low ∷ U.rest)
  inner = split (places N.key 1 N.kids ++ drop 1 (open_behind (None ∷ []) U.front)) (U.before ++ (U.low ∷ U.rest)) U.before (U.low ∷ U.rest) refl

  pub front-same : (t : ℕ) → t < p → (slice_get ms t ≡ slice_get ns t) × (parent_in ms t ≡ parent_in ns t)
  front-same t l =
      let h : t < length U.front = omega (arith, l, U.at) in
      let x = old-parts.left t h in
      let y = new-parts.left t h in
      (y.0 ∙ sym x.0, y.1 ∙ sym x.1)

  -- the item so many places behind the second child
  pub item-same : (t u : ℕ) → t ≡ p + u → slice_get ms t ≡ slice_get ns (t + gap)
  item-same t u e =
      let x = old-parts.right (t + gap) (suc (length U.before + u)) (omega (arith, e, U.at)) in
      let y = new-parts.right t u (omega (arith, e, U.at)) in
      y.0 ∙ sym (inner.right (length U.before + u) u refl).0 ∙ sym x.0

  pub parent-same : (t u : ℕ) → t ≡ p + suc u → N.kids ≡ 2 → parent_in ms t ≡ parent_in ns (t + gap)
  parent-same t u e two =
      let x = old-parts.right (t + gap) (suc (length U.before + suc u)) (omega (arith, e, U.at)) in
      let y = new-parts.right t (suc u) (omega (arith, e, U.at)) in
      let z = inner.right (length U.before + suc u) (suc u) refl in
      y.1 ∙ same ∙ sym z.1 ∙ sym x.1
    where
      opened : open_behind (places N.key 1 N.kids ++ drop 1 (open_behind (None ∷ []) U.front)) U.before ≡ Some (N.key, 2) ∷ drop 1 (open_behind (None ∷ []) U.front)
      opened =
          behind-terms 1 (places N.key 1 N.kids ++ drop 1 (open_behind (None ∷ []) U.front)) U.before U.one
          ∙ ap (λ (k : ℕ). drop 1 (places N.key 1 k ++ drop 1 (open_behind (None ∷ []) U.front))) two

      same : get_or (ups (open_behind (None ∷ []) U.front) (U.low ∷ U.rest)) (suc u) None ≡ get_or (ups (open_behind (places N.key 1 N.kids ++ drop 1 (open_behind (None ∷ []) U.front)) U.before) (U.low ∷ U.rest)) (suc u) None
      same = ap (λ (o : Opens). get_or (ups o (U.low ∷ U.rest)) (suc u) None) (sym opened)

module _ (g : Keyed) (K : IsKeyed g) (at key : Key) (p : ℕ) (there : key_at g.rules (start_of g.rules) p ≡ Some at)
    (N : Node) (here : slice_get (nodes_at g.rules (start_of g.rules)) p ≡ Some N) (two : N.kids ≡ 2) (sec : slice_get (kids_in (nodes_at g.rules (start_of g.rules)) p) 1 ≡ Some key) where
  within : start_of g.rules < length g.rules
  within = (key_at-within g.rules (start_of g.rules) p at there).0

  term : IsKeyedTerm (nodes_at g.rules (start_of g.rules))
  term = record { term = nodes-are-term g K (start_of g.rules) within; once = λ i j k a b. (K.once k (start_of g.rules) i (start_of g.rules) j a b).1 }

  pub apart : IsCut (nodes_at g.rules (start_of g.rules)) p N key
  apart = cut (nodes_at g.rules (start_of g.rules)) p N key term here two sec

  abbrev pub many : ℕ
  many = suc (length apart.before)

  pub low-there : key_at g.rules (start_of g.rules) (p + suc (length apart.before)) ≡ Some key
  low-there =
      let x = split (None ∷ []) (nodes_at g.rules (start_of g.rules)) apart.front (N ∷ (apart.before ++ (apart.low ∷ apart.rest))) apart.split in
      let y = (x.right (p + suc (length apart.before)) (suc (length apart.before + 0)) (omega (arith, apart.at))).0 in
      let z = slice_get-right apart.before (apart.low ∷ apart.rest) 0 in
      key_of_node (nodes_at g.rules (start_of g.rules)) (p + suc (length apart.before)) apart.low (y ∙ z) ∙ ap (λ (k : Key). Some k) apart.named

  module _ (h : Keyed) (new : h.rules ≡ with_nodes g.rules (start_of g.rules) (lifted_nodes (nodes_at g.rules (start_of g.rules)) p)) where
    pub same-length : length h.rules ≡ length g.rules
    same-length = ap length new ∙ length-with_nodes g.rules (start_of g.rules) (lifted_nodes (nodes_at g.rules (start_of g.rules)) p) within

    here-nodes : nodes_at h.rules (start_of g.rules) ≡ lifted_nodes (nodes_at g.rules (start_of g.rules)) p
    here-nodes = ap (λ (G : List KeyedRule). nodes_at G (start_of g.rules)) new ∙ nodes-with_nodes g.rules (start_of g.rules) (lifted_nodes (nodes_at g.rules (start_of g.rules)) p) within

    other-nodes : (r : ℕ) → r ≢ start_of g.rules → nodes_at h.rules r ≡ nodes_at g.rules r
    other-nodes r d = ap (λ (G : List KeyedRule). nodes_at G r) new ∙ nodes-others g.rules (start_of g.rules) r (lifted_nodes (nodes_at g.rules (start_of g.rules)) p) within d

    -- the node, its first child's nodes and its second child
    abbrev pub near : ℕ → Type 0
    near n = IsBetween g.rules p (suc (length apart.before)) n

    -- where a node of the new rules stood
    record Stood (r t : ℕ) : Type 0 where
      spot : ℕ
      node : slice_get (nodes_at h.rules r) t ≡ slice_get (nodes_at g.rules r) spot
      parent : (r ≡ start_of g.rules → t ≢ p) → parent_in (nodes_at h.rules r) t ≡ parent_in (nodes_at g.rules r) spot
      -- in the start: before the node, or from its second child on
      place : r ≡ start_of g.rules → ((t < p) × (spot ≡ t)) ⊎ ((p ≤ t) × (spot ≡ t + many))

    stood : (r t : ℕ) → Stood r t
    stood r t = by (cases_eq r (start_of g.rules)) (side p t)
      where
        ms : List Node
        ms = nodes_at h.rules (start_of g.rules)

        in-start : (r ≡ start_of g.rules) → (q : ℕ) → slice_get (nodes_at h.rules (start_of g.rules)) t ≡ slice_get (nodes_at g.rules (start_of g.rules)) q → slice_get (nodes_at h.rules r) t ≡ slice_get (nodes_at g.rules r) q
        in-start e q x = ap (λ i. slice_get (nodes_at h.rules i) t) e ∙ x ∙ ap (λ i. slice_get (nodes_at g.rules i) q) (sym e)

        up-start : (r ≡ start_of g.rules) → (q : ℕ) → parent_in (nodes_at h.rules (start_of g.rules)) t ≡ parent_in (nodes_at g.rules (start_of g.rules)) q → parent_in (nodes_at h.rules r) t ≡ parent_in (nodes_at g.rules r) q
        up-start e q x = ap (λ i. parent_in (nodes_at h.rules i) t) e ∙ x ∙ ap (λ i. parent_in (nodes_at g.rules i) q) (sym e)

        by : (r ≡ start_of g.rules) ⊎ (r ≡ start_of g.rules → ⊥) → Side p t → Stood r t
        by (inr d) z = record {
          spot = t;
          node = ap (λ (xs : List Node). slice_get xs t) (other-nodes r d);
          parent = λ f. ap (λ (xs : List Node). parent_in xs t) (other-nodes r d);
          place = λ e. absurd (d e);
        }
        by (inl e) (first l) =
            let w = front-same (nodes_at g.rules (start_of g.rules)) (nodes_at h.rules (start_of g.rules)) p N key apart here-nodes t l in
            record { spot = t; node = in-start e t w.0; parent = λ f. up-start e t w.1; place = λ z. inl (l, refl) }
        by (inl e) (second zero z) = record {
          spot = t + many;
          node = in-start e (t + many) (item-same (nodes_at g.rules (start_of g.rules)) (nodes_at h.rules (start_of g.rules)) p N key apart here-nodes t 0 z);
          parent = λ f. absurd (f e (omega (arith, z)));
          place = λ y. inr (omega (arith, z), refl);
        }
        by (inl e) (second (suc u) z) = record {
          spot = t + many;
          node = in-start e (t + many) (item-same (nodes_at g.rules (start_of g.rules)) (nodes_at h.rules (start_of g.rules)) p N key apart here-nodes t (suc u) z);
          parent = λ f. up-start e (t + many) (parent-same (nodes_at g.rules (start_of g.rules)) (nodes_at h.rules (start_of g.rules)) p N key apart here-nodes t u z two);
          place = λ y. inr (omega (arith, z), refl);
        }

    stood-key : (r t : ℕ) (k : Key) → key_at h.rules r t ≡ Some k → (W : Stood r t) → key_at g.rules r W.spot ≡ Some k
    stood-key r t k e W = sym (same_key (nodes_at h.rules r) (nodes_at g.rules r) t W.spot W.node) ∙ e

    -- of the near nodes the second child alone stands in the new rules
    pub last-near : (r t : ℕ) (k : Key) → key_at h.rules r t ≡ Some k → near k.number → (r ≡ start_of g.rules) × (t ≡ p)
    last-near r t k e B = by (W.place o.0)
      where
        W : Stood r t
        W = stood r t

        o : (r ≡ start_of g.rules) × (W.spot ≡ p + B.at)
        o = K.once k r W.spot (start_of g.rules) (p + B.at) (stood-key r t k e W) (B.there ∙ ap (λ (x : Key). Some x) (one-key B.key k B.named))

        by : ((t < p) × (W.spot ≡ t)) ⊎ ((p ≤ t) × (W.spot ≡ t + many)) → (r ≡ start_of g.rules) × (t ≡ p)
        by (inl (l, z)) = absurd (omega (arith, l, z, o.1))
        by (inr (l, z)) = (o.0, omega (arith, l, z, o.1, B.few))

    pub second-there : key_at h.rules (start_of g.rules) p ≡ Some key
    second-there =
        let x = new-parts (nodes_at g.rules (start_of g.rules)) (nodes_at h.rules (start_of g.rules)) p N key apart here-nodes in
        let y = (x.right p 0 (omega (arith, apart.at))).0 in
        key_of_node (nodes_at h.rules (start_of g.rules)) p apart.low y ∙ ap (λ (k : Key). Some k) apart.named

    pub lifted-near : IsNear g h near
    lifted-near = record {
      ranks = ap (λ (G : List KeyedRule). ranks_of (rules_of G)) new ∙ ranks-with g.rules (start_of g.rules) (lifted_nodes (nodes_at g.rules (start_of g.rules)) p) lawful within;
      rules = same-length;
      same = λ r t k e n. same r t k e n (stood r t);
      stay = λ r t k e n. stay r t k e n;
    }
      where
        lawful : IsLawful g.rules
        lawful = record { grammar = K.grammar; arities = K.arities }

        same : (r t : ℕ) (k : Key) → key_at h.rules r t ≡ Some k → (near k.number → ⊥) → (W : Stood r t) → (s' : ℕ) × ((q : ℕ) × ((key_at g.rules s' q ≡ Some k) × TellsSame h.rules g.rules r t s' q))
        same r t k e n W =
            let w = node_of (nodes_at h.rules r) t k e in
            (r, (W.spot, (stood-key r t k e W, record { node = w.0; other = w.0; here = w.1.0; there = sym W.node ∙ w.1.0; label = refl; parent = W.parent far; above = above })))
          where
            far : r ≡ start_of g.rules → t ≢ p
            far z y =
                let k' = sym second-there ∙ ap (λ i. key_at h.rules i p) (sym z) ∙ ap (key_at h.rules r) (sym y) ∙ e in
                let W' = stood r t in
                n (by (W'.place z))
              where
                by : ((t < p) × ((stood r t).spot ≡ t)) ⊎ ((p ≤ t) × ((stood r t).spot ≡ t + many)) → near k.number
                by (inl (l, x)) = absurd (omega (arith, l, y))
                by (inr (l, x)) = record {
                  at = many;
                  key = k;
                  few = omega arith;
                  there = ap (λ i. key_at g.rules i (p + many)) (sym z) ∙ ap (key_at g.rules r) (let v : p + many ≡ (stood r t).spot = omega (arith, y, x) in v) ∙ stood-key r t k e (stood r t);
                  named = refl;
                }

            above : (a b : ℕ) (m o : Node) → slice_get (nodes_at h.rules r) a ≡ Some m → slice_get (nodes_at g.rules r) b ≡ Some o → m.key ≡ o.key → (c : ℕ) → parent_in (nodes_at h.rules r) t ≡ Some (m.key, c) → m.label ≡ o.label
            above a b m o x y z c u =
                let V = stood r a in
                let ka = stood-key r a m.key (key_of_node (nodes_at h.rules r) a m x) V in
                let q = K.once m.key r V.spot r b ka (key_of_node (nodes_at g.rules r) b o y ∙ ap (λ (v : Key). Some v) (sym z)) in
                let f : Some m ≡ Some o = sym x ∙ V.node ∙ ap (slice_get (nodes_at g.rules r)) q.1 ∙ y in
                label-of m o f
              where
                label-of : (m o : Node) → Some m ≡ Some o → m.label ≡ o.label
                label-of m o f = let w : m ≡ o = cc in ap (λ (v : Node). v.label) w

        stay : (r t : ℕ) (k : Key) → key_at g.rules r t ≡ Some k → (near k.number → ⊥) → (s' : ℕ) × ((q : ℕ) × (key_at h.rules s' q ≡ Some k))
        stay r t k e n = by (cases_eq r (start_of g.rules)) (side p t)
          where
            by : (r ≡ start_of g.rules) ⊎ (r ≡ start_of g.rules → ⊥) → Side p t → (s' : ℕ) × ((q : ℕ) × (key_at h.rules s' q ≡ Some k))
            by (inr d) z = (r, (t, ap (λ (xs : List Node). key_in xs t) (other-nodes r d) ∙ e))
            by (inl z) (first l) =
                let w = front-same (nodes_at g.rules (start_of g.rules)) (nodes_at h.rules (start_of g.rules)) p N key apart here-nodes t l in
                (start_of g.rules, (t, same_key (nodes_at h.rules (start_of g.rules)) (nodes_at g.rules (start_of g.rules)) t t w.0 ∙ ap (λ i. key_at g.rules i t) (sym z) ∙ e))
            by (inl z) (second u y) = of (side (suc many) u)
              where
                e' : key_at g.rules (start_of g.rules) t ≡ Some k
                e' = ap (λ i. key_at g.rules i t) (sym z) ∙ e

                of : Side (suc many) u → (s' : ℕ) × ((q : ℕ) × (key_at h.rules s' q ≡ Some k))
                of (first l) = absurd (n (record { at = u; key = k; few = omega (arith, l); there = ap (key_at g.rules (start_of g.rules)) (sym y) ∙ e'; named = refl }))
                of (second v x) =
                    let i = item-same (nodes_at g.rules (start_of g.rules)) (nodes_at h.rules (start_of g.rules)) p N key apart here-nodes (p + suc v) (suc v) refl in
                    let j : p + suc v + many ≡ t = omega (arith, y, x) in
                    (start_of g.rules, (p + suc v, same_key (nodes_at h.rules (start_of g.rules)) (nodes_at g.rules (start_of g.rules)) (p + suc v) (p + suc v + many) i ∙ ap (key_at g.rules (start_of g.rules)) j ∙ e'))
