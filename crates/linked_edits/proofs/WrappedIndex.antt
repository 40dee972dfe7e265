-- An index while a body that ends in its parameter is put around a node: all nodes but that node and the body's tell the same.
use Rattle.std.proofs.Common.{◌≡◌, ◌≢◌, ◌⊎◌, inl, inr, ℕ, zero, suc, ◌+◌, ◌<◌, List, [], ◌∷◌, ◌++◌, length, take, drop, Option, Some, None, slice_get, refl, sym, ap, ◌∙◌, subst, arith, length-append}
use Rattle.std.proofs.lemmas.Bool.{cases_eq}
use Rattle.std.proofs.lemmas.List.{length-take-le}
use Rattle.rule_arena.specs.Preorder.{AreTerms, span, subterm, with_subterm}
use Rattle.rule_arena.specs.Terms.{Node, key_in, kids_of, parent_in}
use Rattle.rule_arena.specs.declared.key.Key.{Key}
use Rattle.rule_arena.specs.declared.label.Label.TheVariants.{Bottom}
use Rattle.rule_arena.proofs.NodeLemmas.{same_key}
use Rattle.rule_arena.proofs.PreorderLemmas.{AreTerms-with, split_at}
use Rattle.slt_grammar.specs.Algebras.{ranks_of}
use Rattle.slt_grammar.specs.Holding.{IsLawful}
use Rattle.slt_grammar.specs.Keyed.{IsKeyed, Keyed, KeyedRule, key_at, nodes_at, rules_of}
use Rattle.slt_grammar.specs.KeyedEdits.{with_nodes}
use Rattle.slt_grammar.proofs.KeyedEdits.{length-with_nodes, nodes-others, nodes-with_nodes, ranks-with}
use Rattle.slt_grammar.proofs.KeyedLemmas.{key_at-within, nodes-are-term}
use Rattle.digram_index.specs.Digrams.{occurrence_at, occurrence_below, parent_node}
use Rattle.digram_index.specs.Keeping.{IsIndexBut}
use Rattle.digram_index.specs.Linked.{IsIndexOf, Linked, cell}
use Rattle.digram_index.proofs.Apartness.{one-key}
use Rattle.digram_index.proofs.BuildLemmas.{none-left}
use Rattle.digram_index.proofs.ParentLemmas.{keyed_place, parent-key}
use Rattle.digram_index.proofs.Sides.{Side, first, second, side}
use Rattle.linked_edits.specs.Endings.{IsBelow}
use Rattle.linked_edits.specs.Runs.{IsBetween, IsRun, start_of}
use Rattle.linked_edits.proofs.AroundParts.{IsAlike, alike-back, alike-front, alike-sub, same-above-first}
use Rattle.linked_edits.proofs.Between.{between}
use Rattle.linked_edits.proofs.NodeUps.{parts}

number : (a b : Key) → Some a ≡ Some b → a.number ≡ b.number
number a b e = let w : a ≡ b = cc in ap (λ (v : Key). v.number) w

-- the term of a node is one term
pub subterm-is-term : (g : Keyed) → IsKeyed g → (key : Key) (r p : ℕ) → key_at g.rules r p ≡ Some key → AreTerms kids_of 1 (subterm kids_of (nodes_at g.rules r) p)
subterm-is-term g K key r p there =
    let w = key_at-within g.rules r p key there in
    (AreTerms-with kids_of 1 (nodes_at g.rules r) p (record { key = key; label = Bottom; kids = 0 } ∷ []) (nodes-are-term g K r w.0) w.1 tt).0

module _ (g h : Keyed) (K : IsKeyed g) (K' : IsKeyed h) (at : Key) (r p : ℕ) (start : r + 1 ≡ length g.rules) (there : key_at g.rules r p ≡ Some at) (pre : List Node)
    (all : AreTerms kids_of 1 (pre ++ subterm kids_of (nodes_at g.rules r) p)) (new : h.rules ≡ with_nodes g.rules r (with_subterm kids_of (nodes_at g.rules r) p (pre ++ subterm kids_of (nodes_at g.rules r) p))) where
  abbrev sub : List Node
  sub = subterm kids_of (nodes_at g.rules r) p

  abbrev front : List Node
  front = take p (nodes_at g.rules r)

  abbrev back : List Node
  back = drop (span kids_of 1 (drop p (nodes_at g.rules r))) (drop p (nodes_at g.rules r))

  abbrev whole : List Node
  whole = take p (nodes_at g.rules r) ++ ((pre ++ subterm kids_of (nodes_at g.rules r) p) ++ drop (span kids_of 1 (drop p (nodes_at g.rules r))) (drop p (nodes_at g.rules r)))

  in-list : r < length g.rules
  in-list = (key_at-within g.rules r p at there).0

  inside : p < length (nodes_at g.rules r)
  inside = (key_at-within g.rules r p at there).1

  front-is : length front ≡ p
  front-is = length-take-le p (nodes_at g.rules r) (omega (arith, inside))

  one : AreTerms kids_of 1 sub
  one = subterm-is-term g K at r p there

  same-ranks : ranks_of (rules_of h.rules) ≡ ranks_of (rules_of g.rules)
  same-ranks = ap (λ (H : List KeyedRule). ranks_of (rules_of H)) new ∙ ranks-with g.rules r whole (let L : IsLawful g.rules = record { grammar = K.grammar; arities = K.arities } in L) in-list

  same-length : length h.rules ≡ length g.rules
  same-length = ap length new ∙ length-with_nodes g.rules r whole in-list

  pub start-is : start_of h.rules ≡ r
  start-is = omega (arith, same-length, start)

  here-nodes : nodes_at h.rules r ≡ whole
  here-nodes = ap (λ (H : List KeyedRule). nodes_at H r) new ∙ nodes-with_nodes g.rules r whole in-list

  other-nodes : (s : ℕ) → s ≢ r → nodes_at h.rules s ≡ nodes_at g.rules s
  other-nodes s d = ap (λ (H : List KeyedRule). nodes_at H s) new ∙ nodes-others g.rules r s whole in-list d

  old-nodes : front ++ (sub ++ back) ≡ nodes_at g.rules r
  old-nodes = split_at kids_of (nodes_at g.rules r) p

  -- a node at a place of the new rules is told as the one at a place of the old ones
  record IsTold (q t u : ℕ) : Type 0 where
    node : slice_get (nodes_at h.rules q) t ≡ slice_get (nodes_at g.rules q) u
    parent : parent_node (nodes_at h.rules q) t ≡ parent_node (nodes_at g.rules q) u

  told : (t u x y : ℕ) → IsAlike front pre sub back one all t u → t ≡ x → u ≡ y → IsTold r x y
  told t u x y w e f = subst (λ i. IsTold r i y) e (subst (λ j. IsTold r t j) f (record {
    node = ap (λ (zs : List Node). slice_get zs t) here-nodes ∙ w.0 ∙ ap (λ (zs : List Node). slice_get zs u) old-nodes;
    parent = ap (λ (zs : List Node). parent_node zs t) here-nodes ∙ w.1 ∙ ap (λ (zs : List Node). parent_node zs u) old-nodes;
  }))

  told-other : (s t : ℕ) → s ≢ r → IsTold s t t
  told-other s t d = record { node = ap (λ (zs : List Node). slice_get zs t) (other-nodes s d); parent = ap (λ (zs : List Node). parent_node zs t) (other-nodes s d) }

  told-occurs : (q t u : ℕ) → IsTold q t u → occurrence_at h.rules q t ≡ occurrence_at g.rules q u
  told-occurs q t u T =
      ap (λ v. occurrence_below (ranks_of (rules_of h.rules)) v (slice_get (nodes_at h.rules q) t)) T.parent
      ∙ ap (λ v. occurrence_below (ranks_of (rules_of h.rules)) (parent_node (nodes_at g.rules q) u) v) T.node
      ∙ ap (λ rs. occurrence_below rs (parent_node (nodes_at g.rules q) u) (slice_get (nodes_at g.rules q) u)) same-ranks

  told-key : (q t u : ℕ) → IsTold q t u → key_at h.rules q t ≡ key_at g.rules q u
  told-key q t u T = same_key (nodes_at h.rules q) (nodes_at g.rules q) t u T.node

  -- places of the start that are neither the node's nor of those put before it
  abbrev IsFar : ℕ → ℕ → Type 0
  IsFar q t = q ≡ r → (t < p) ⊎ (p + length pre < t)

  -- each old node but the one stands far from it, told the same
  record Goes (s u : ℕ) : Type 0 where
    spot : ℕ
    same : IsTold s spot u
    far : IsFar s spot

  goes : (s u : ℕ) → (s ≡ r → u ≢ p) → Goes s u
  goes s u d = by (cases_eq s r) (side p u)
    where
      in-start : (spot : ℕ) → s ≡ r → IsTold r spot u → (spot < p) ⊎ (p + length pre < spot) → Goes s u
      in-start spot e T f = record { spot = spot; same = subst (λ i. IsTold i spot u) (sym e) T; far = λ z. f }

      by : (s ≡ r) ⊎ (s ≡ r → ⊥) → Side p u → Goes s u
      by (inr n) z = record { spot = u; same = told-other s u n; far = λ e. absurd (n e) }
      by (inl e) (first l) = in-start u e (told u u u u (alike-front front pre sub back one all u (omega (arith, l, front-is))) refl refl) (inl l)
      by (inl e) (second zero z) = absurd (d e (omega (arith, z)))
      by (inl e) (second (suc v) z) = of (side (length sub) (suc v))
        where
          of : Side (length sub) (suc v) → Goes s u
          of (first l) =
              in-start (p + (length pre + suc v)) e (told (length front + (length pre + suc v)) (length front + suc v) (p + (length pre + suc v)) u (alike-sub front pre sub back one all v l) (omega (arith, front-is)) (omega (arith, z, front-is)))
              (inr (omega arith))
          of (second w y) =
              in-start (p + (length (pre ++ sub) + w)) e
              (told (length front + (length (pre ++ sub) + w)) (length front + (length sub + w)) (p + (length (pre ++ sub) + w)) u (alike-back front pre sub back one all w) (omega (arith, front-is)) (omega (arith, z, y, front-is)))
              (inr (omega (arith, length-append pre sub, wide sub one)))
            where
              wide : (xs : List Node) → AreTerms kids_of 1 xs → 0 < length xs
              wide [] t = absurd t
              wide (x ∷ xs) t = omega arith

  -- a node that is far is told as an old one, which is not the node
  record Comes (q t : ℕ) : Type 0 where
    old : ℕ
    same : IsTold q t old
    apart : q ≡ r → old ≢ p

  comes : (q t : ℕ) → IsFar q t → Comes q t
  comes q t far = by (cases_eq q r) (side (p + length pre) t)
    where
      in-start : (u : ℕ) → q ≡ r → IsTold r t u → u ≢ p → Comes q t
      in-start u e T d = record { old = u; same = subst (λ i. IsTold i t u) (sym e) T; apart = λ z. d }

      low : (q ≡ r) → t < p → Comes q t
      low e l = in-start t e (told t t t t (alike-front front pre sub back one all t (omega (arith, l, front-is))) refl refl) (λ z. omega (arith, z, l))

      by : (q ≡ r) ⊎ (q ≡ r → ⊥) → Side (p + length pre) t → Comes q t
      by (inr n) z = record { old = t; same = told-other q t n; apart = λ e. absurd (n e) }
      by (inl e) (first l) = of (far e)
        where
          of : (t < p) ⊎ (p + length pre < t) → Comes q t
          of (inl m) = low e m
          of (inr m) = absurd (omega (arith, l, m))
      by (inl e) (second zero z) = of (far e)
        where
          of : (t < p) ⊎ (p + length pre < t) → Comes q t
          of (inl m) = low e m
          of (inr m) = absurd (omega (arith, z, m))
      by (inl e) (second (suc v) z) = of (side (length sub) (suc v))
        where
          of : Side (length sub) (suc v) → Comes q t
          of (first l) =
              in-start (p + suc v) e (told (length front + (length pre + suc v)) (length front + suc v) t (p + suc v) (alike-sub front pre sub back one all v l) (omega (arith, z, front-is)) (omega (arith, front-is)))
              (λ y. omega (arith, y))
          of (second w y) =
              in-start (p + (length sub + w)) e
              (told (length front + (length (pre ++ sub) + w)) (length front + (length sub + w)) t (p + (length sub + w)) (alike-back front pre sub back one all w) (omega (arith, z, y, front-is, length-append pre sub)) (omega (arith, front-is)))
              (λ x. omega (arith, x, y))

  -- the node stands behind those that were put before it
  pub at-there : key_at h.rules r (p + length pre) ≡ Some at
  at-there =
      ap (λ (xs : List Node). key_in xs (p + length pre)) here-nodes
      ∙ same_key whole ((pre ++ sub) ++ back) (p + length pre) (length pre) ((parts (None ∷ []) front ((pre ++ sub) ++ back)).right (p + length pre) (length pre) (omega (arith, front-is))).0
      ∙ same_key ((pre ++ sub) ++ back) (pre ++ sub) (length pre) (length pre) ((parts (None ∷ []) (pre ++ sub) back).left (length pre) (omega (arith, length-append pre sub, wide sub one))).0
      ∙ same_key (pre ++ sub) sub (length pre) 0 ((parts (None ∷ []) pre sub).right (length pre) 0 (omega arith)).0
      ∙ sym (same_key (sub ++ back) sub 0 0 ((parts (None ∷ []) sub back).left 0 (wide sub one)).0)
      ∙ sym (same_key (front ++ (sub ++ back)) (sub ++ back) p 0 ((parts (None ∷ []) front (sub ++ back)).right p 0 (omega (arith, front-is))).0)
      ∙ ap (λ (xs : List Node). key_in xs p) old-nodes ∙ there
    where
      wide : (xs : List Node) → AreTerms kids_of 1 xs → 0 < length xs
      wide [] t = absurd t
      wide (x ∷ xs) t = omega arith

  -- what stood above the node stands above the first of them
  pub same-parent : parent_in (nodes_at h.rules r) p ≡ parent_in (nodes_at g.rules r) p
  same-parent =
      ap (λ (xs : List Node). parent_in xs p) here-nodes ∙ parent-key whole p
      ∙ ap keyed_place (ap (λ (i : ℕ). parent_node whole i) (sym front-is) ∙ same-above-first front pre sub back one all ∙ ap (λ (i : ℕ). parent_node (front ++ (sub ++ back)) i) front-is ∙ ap (λ (xs : List Node). parent_node xs p) old-nodes)
      ∙ sym (parent-key (nodes_at g.rules r) p)

  pub first-below : (above : Option (Key × ℕ)) → parent_in (nodes_at g.rules r) p ≡ above → IsBelow h.rules p above
  first-below above e = record {
    inside = let w = (key_at-within h.rules r (p + length pre) at at-there).1 in let z : length (nodes_at h.rules r) ≡ length (nodes_at h.rules (start_of h.rules)) = ap (λ (i : ℕ). length (nodes_at h.rules i)) (sym start-is) in omega (arith, w, z);
    parent = ap (λ (i : ℕ). parent_in (nodes_at h.rules i) p) start-is ∙ same-parent ∙ e;
  }

  -- they stand one behind another
  abbrev pub copies-run : (root : Key) → key_at h.rules (start_of h.rules) p ≡ Some root → IsRun h.rules root at
  copies-run root e = record { place = p; more = length pre; first = e; last = ap (λ (i : ℕ). key_at h.rules i (p + length pre)) start-is ∙ at-there }

  abbrev pub near : ℕ → Type 0
  near n = IsBetween h.rules p (length pre) n

  pub near-or-not : (n : ℕ) → near n ⊎ (near n → ⊥)
  near-or-not n = between h.rules p (length pre) n

  is-far : (q t : ℕ) (key : Key) → key_at h.rules q t ≡ Some key → (near key.number → ⊥) → IsFar q t
  is-far q t key k d e = by (side p t)
    where
      by : Side p t → (t < p) ⊎ (p + length pre < t)
      by (first l) = inl l
      by (second v z) = of (side (length pre + 1) v)
        where
          of : Side (length pre + 1) v → (t < p) ⊎ (p + length pre < t)
          of (first l) =
              absurd (d (record { at = v; key = key; few = omega (arith, l); there = ap (λ (i : ℕ). key_at h.rules i (p + v)) (start-is ∙ sym e) ∙ ap (key_at h.rules q) (sym z) ∙ k; named = refl }))
          of (second w y) = inr (omega (arith, z, y))

  -- once the node was unlinked
  module _ (I mid : Linked) (A : IsIndexOf g I) (free : cell mid at.number ≡ None) (others : (k : ℕ) → k ≢ at.number → cell mid k ≡ cell I k) (rules : mid.rules ≡ I.rules) where
    known : (k : ℕ) → cell mid k ≢ None → (k ≡ at.number) ⊎ (k ≡ at.number → ⊥) → (k ≢ at.number) × (cell I k ≢ None)
    known k x (inl e) = absurd (x (ap (cell mid) e ∙ free))
    known k x (inr d) = (d, λ z. x (others k d ∙ z))

    -- what is linked stands far from the node
    record IsLeft (k : ℕ) : Type 0 where
      key : Key
      rule : ℕ
      spot : ℕ
      stands : key_at h.rules rule spot ≡ Some key
      far : IsFar rule spot
      named : key.number ≡ k

    left : (k : ℕ) → cell mid k ≢ None → IsLeft k
    left k x =
        let d = known k x (cases_eq k at.number) in
        let w = A.only k d.1 in
        let G = goes w.1.0 w.1.1.0 (λ e z. d.0 (sym w.1.1.1.1 ∙ number w.0 at (sym w.1.1.1.0 ∙ ap (λ i. key_at g.rules i w.1.1.0) e ∙ ap (key_at g.rules r) z ∙ there))) in
        record { key = w.0; rule = w.1.0; spot = G.spot; stands = told-key w.1.0 G.spot w.1.1.0 G.same ∙ w.1.1.1.0; far = G.far; named = w.1.1.1.1 }

    pub wrapped-but : IsIndexBut h mid near
    wrapped-but = record {
      rules = omega (arith, rules, A.rules, same-length);
      all = all';
      free = free';
      only = λ k x. let l = left k x in (l.key, (l.rule, (l.spot, (l.stands, l.named))));
    }
      where
        all' : (q t : ℕ) (key : Key) → key_at h.rules q t ≡ Some key → (near key.number → ⊥) → cell mid key.number ≡ occurrence_at h.rules q t
        all' q t key k d =
            let C = comes q t (is-far q t key k d) in
            let k' : key_at g.rules q C.old ≡ Some key = sym (told-key q t C.old C.same) ∙ k in
            let n : key.number ≢ at.number = λ e. let o = K.once key q C.old r p k' (there ∙ ap (λ (y : Key). Some y) (sym (one-key key at e))) in C.apart o.0 o.1 in
            others key.number n ∙ A.all q C.old key k' ∙ sym (told-occurs q t C.old C.same)

        free' : (k : ℕ) → near k → cell mid k ≡ None
        free' k B = none-left (cell mid k) (λ x. no (left k x))
          where
            no : IsLeft k → ⊥
            no l =
                let o = K'.once l.key l.rule l.spot (start_of h.rules) (p + B.at) l.stands (B.there ∙ ap (λ (y : Key). Some y) (one-key B.key l.key (B.named ∙ sym l.named))) in
                of (l.far (o.0 ∙ start-is))
              where
                of : (l.spot < p) ⊎ (p + length pre < l.spot) → ⊥
                of (inl m) = let o = K'.once l.key l.rule l.spot (start_of h.rules) (p + B.at) l.stands (B.there ∙ ap (λ (y : Key). Some y) (one-key B.key l.key (B.named ∙ sym l.named))) in omega (arith, m, o.1)
                of (inr m) = let o = K'.once l.key l.rule l.spot (start_of h.rules) (p + B.at) l.stands (B.there ∙ ap (λ (y : Key). Some y) (one-key B.key l.key (B.named ∙ sym l.named))) in omega (arith, m, o.1, B.few)
