-- A code whose term changes in one place is the code of trees that change there.
use Rattle.std.proofs.Common.{◌≡◌, ℕ, zero, suc, ◌+◌, ◌-◌, ◌<◌, ◌≤◌, List, [], ◌∷◌, ◌++◌, length, get_or, Some, slice_get, refl, ap, sym, ◌∙◌, subst, arith, sum_by, ◌⊎◌, inl, inr, length-append}
use Rattle.std.specs.Prelude.{nat_lt, if◌then◌else◌}
use Rattle.std.proofs.lemmas.List.Sums.{sum_by-cons, sum_by-append}
use Rattle.plain_tree.specs.declared.kind.Kind.{Kind}
use Rattle.plain_tree.specs.Tree.{node, Trees, none, more, node_count_all}
use Rattle.rule_arena.specs.declared.label.Label.{Label}
use Rattle.rule_arena.specs.declared.label.Label.TheVariants.{Bottom, Symbol, Call, Param}
use Rattle.slt_grammar.specs.Bodies.{params}
use Rattle.slt_grammar.specs.Coding.{Codes}
use Rattle.slt_grammar.specs.Segments.{listed, segment}
use Rattle.slt_grammar.specs.Terms.{Term, Leaf, Node, Hole, substitute, holes_of}
use Rattle.slt_grammar.proofs.TourLemmas.{segment-first}
use Rattle.plain_tree.specs.Edits.{changed}
use Rattle.plain_tree.proofs.Changing.{if-below, if-from, from_node, before-more}
use Rattle.tree_updates.specs.Differences.{hole_at}

-- the trees in which the list of siblings from a place on is another, where the kids of a node take so many places
abbrev pub replaced : (Trees → ℕ) → Trees → ℕ → Trees → Trees
replaced width vs zero ts = vs
replaced width vs (suc p) none = none
replaced width vs (suc p) (more (node k m v ks) ts) =
    if nat_lt p (width ks) then (more (node k m v (replaced width vs p ks)) ts) else more (node k m v ks) (replaced width vs (p - width ks) ts)

-- the list of siblings from a place on
abbrev pub reached : (Trees → ℕ) → ℕ → Trees → Trees
reached width zero ts = ts
reached width (suc p) none = none
reached width (suc p) (more (node k m v ks) ts) = if nat_lt p (width ks) then (reached width p ks) else reached width (p - width ks) ts

-- by numbers
pub replaced-numbers : (vs : Trees) (n : ℕ) (ts : Trees) → replaced node_count_all vs n ts ≡ changed more (λ _. vs) n ts
replaced-numbers vs zero ts = refl
replaced-numbers vs (suc n) none = refl
replaced-numbers vs (suc n) (more (node k m v ks) ts) =
    ap (λ us. if nat_lt n (node_count_all ks) then (more (node k m v us) ts) else more (node k m v ks) (replaced node_count_all vs (n - node_count_all ks) ts)) (replaced-numbers vs n ks)
    ∙ ap (λ us. if nat_lt n (node_count_all ks) then (more (node k m v (changed more (λ _. vs) n ks)) ts) else us)
    (ap (more (node k m v ks)) (replaced-numbers vs (n - node_count_all ks) ts) ∙ sym (before-more (n - node_count_all ks) (node k m v ks) (changed more (λ _. vs) (n - node_count_all ks) ts)))

pub reached-numbers : (n : ℕ) (ts : Trees) → reached node_count_all n ts ≡ from_node n ts
reached-numbers zero ts = refl
reached-numbers (suc n) none = refl
reached-numbers (suc n) (more (node k m v ks) ts) =
    ap (λ us. if nat_lt n (node_count_all ks) then us else reached node_count_all (n - node_count_all ks) ts) (reached-numbers n ks)
    ∙ ap (λ us. if nat_lt n (node_count_all ks) then (from_node n ks) else us) (reached-numbers (n - node_count_all ks) ts)

split-nil : (xs ys : List Term) → xs ++ ys ≡ [] → (xs ≡ []) × (ys ≡ [])
split-nil [] ys e = (refl, e)
split-nil (x ∷ xs) ys e = (cc, cc)

-- a term without holes has no place for arguments
pub whole-stays : (t : Term) (args : List Term) → holes_of t ≡ [] → substitute t args ≡ t
whole-stays Leaf args e = refl
whole-stays (Hole i) args e = cc
whole-stays (Node f a b) args e =
    let h = split-nil (holes_of a) (holes_of b) e in
    ap (λ t. Node f t (substitute b args)) (whole-stays a args h.0) ∙ ap (λ t. Node f a t) (whole-stays b args h.1)

-- a hole is in one of two terms
pub one-hole : (xs ys : List Term) → xs ++ ys ≡ Hole 0 ∷ [] → ((xs ≡ Hole 0 ∷ []) × (ys ≡ [])) ⊎ ((xs ≡ []) × (ys ≡ Hole 0 ∷ []))
one-hole [] ys e = inr (refl, e)
one-hole (x ∷ []) ys e = inl (cc, cc)
one-hole (x ∷ y ∷ xs) ys e = absurd (let n = ap length e in omega (arith, n))

listed-before : (t : Term) (j k : List Label) → listed t j ++ k ≡ listed t (j ++ k)
listed-before Leaf j k = refl
listed-before (Hole i) j k = refl
listed-before (Node f a b) j k = ap (λ ls. Symbol f ∷ ls) (listed-before a (listed b j) k ∙ ap (listed a) (listed-before b j k))

pub listed-append : (t : Term) (k : List Label) → listed t k ≡ listed t [] ++ k
listed-append t k = sym (listed-before t [] k)

pub params-listed : (t : Term) (k : List Label) → params (listed t k) ≡ length (holes_of t) + params k
params-listed Leaf k = omega arith
params-listed (Hole i) k = omega arith
params-listed (Node f a b) k = omega (arith, params-listed a (listed b k), params-listed b k, length-append (holes_of a) (holes_of b))

segment-stays : (xs ys : List Label) → 0 < params xs → segment 0 (xs ++ ys) ≡ segment 0 xs
segment-stays [] ys h = absurd (omega arith)
segment-stays (Param ∷ xs) ys h = refl
segment-stays (Bottom ∷ xs) ys h = ap (λ ls. Bottom ∷ ls) (segment-stays xs ys h)
segment-stays (Symbol f ∷ xs) ys h = ap (λ ls. Symbol f ∷ ls) (segment-stays xs ys h)
segment-stays (Call q ∷ xs) ys h = ap (λ ls. Call q ∷ ls) (segment-stays xs ys h)

module _ (w : Label → ℕ) where
  pub weight-listed : (t : Term) (k : List Label) → sum_by w (listed t k) ≡ sum_by w (listed t []) + sum_by w k
  weight-listed t k = ap (sum_by w) (listed-append t k) ∙ sum_by-append w (listed t []) k

  module _ (one : (f : ℕ) → w (Symbol f) ≡ 1) (f : ℕ) (a b : Term) where
    pub hole-left : holes_of a ≡ Hole 0 ∷ [] → hole_at w (Node f a b) ≡ suc (hole_at w a)
    hole-left h =
        let p : params (listed a []) ≡ 1 = omega (arith, params-listed a [], ap length h) in
        let s : segment 0 (listed a (listed b [])) ≡ segment 0 (listed a []) = ap (segment 0) (listed-append a (listed b [])) ∙ segment-stays (listed a []) (listed b []) (omega arith) in
        omega (arith, sum_by-cons w (Symbol f) (segment 0 (listed a (listed b []))), one f, ap (sum_by w) s)

    pub hole-right : holes_of a ≡ [] → hole_at w (Node f a b) ≡ suc (sum_by w (listed a []) + hole_at w b)
    hole-right h =
        let p : params (listed a []) ≡ 0 = omega (arith, params-listed a [], ap length h) in
        let s : segment 0 (listed a (listed b [])) ≡ listed a [] ++ segment 0 (listed b []) = ap (segment 0) (listed-append a (listed b [])) ∙ segment-first (listed a []) (listed b []) p in
        omega (arith, sum_by-cons w (Symbol f) (segment 0 (listed a (listed b []))), one f, ap (sum_by w) s, sum_by-append w (listed a []) (segment 0 (listed b [])))

    pub weight-node : sum_by w (listed (Node f a b) []) ≡ suc (sum_by w (listed a []) + sum_by w (listed b []))
    weight-node = omega (arith, sum_by-cons w (Symbol f) (listed a (listed b [])), one f, weight-listed a (listed b []))

  -- what stands in the hole weighs in the whole
  pub weight-put : (one : (f : ℕ) → w (Symbol f) ≡ 1) (C this : Term) → holes_of C ≡ Hole 0 ∷ [] → hole_at w C + sum_by w (listed this []) ≤ sum_by w (listed (substitute C (this ∷ [])) [])
  weight-put one Leaf this h = absurd (let n = ap length h in omega (arith, n))
  weight-put one (Hole i) this h = let z : i ≡ 0 = cc in rw z (omega arith)
  weight-put one (Node f a b) this h = by_side (weight-put one a this) (weight-put one b this) (one-hole (holes_of a) (holes_of b) h)
    where
      by_side : (holes_of a ≡ Hole 0 ∷ [] → hole_at w a + sum_by w (listed this []) ≤ sum_by w (listed (substitute a (this ∷ [])) []))
          → (holes_of b ≡ Hole 0 ∷ [] → hole_at w b + sum_by w (listed this []) ≤ sum_by w (listed (substitute b (this ∷ [])) [])) → ((holes_of a ≡ Hole 0 ∷ []) × (holes_of b ≡ [])) ⊎ ((holes_of a ≡ []) × (holes_of b ≡ Hole 0 ∷ [])) → hole_at w (Node f a b) + sum_by w (listed this []) ≤ sum_by w (listed (substitute (Node f a b) (this ∷ [])) [])
      by_side A B (inl l) = omega (arith, hole-left one f a b l.0, weight-node one f (substitute a (this ∷ [])) (substitute b (this ∷ [])), A l.0)
      by_side A B (inr r) =
          omega (
            arith,
            hole-right one f a b r.0,
            weight-node one f (substitute a (this ∷ [])) (substitute b (this ∷ [])),
            B r.1,
            ap (λ t. sum_by w (listed t [])) (whole-stays a (this ∷ []) r.0),
          )

-- in the code of trees a term stands for some siblings, and another term in its place for others in their place
pub record CodesThere (names : List (Kind × List ℕ)) (width : Trees → ℕ) (C this : Term) (p : ℕ) (ts : Trees) : Type 0 where
  pub codes : Codes names (reached width p ts) this
  pub changes : (vs : Trees) (that : Term) → Codes names vs that → Codes names (replaced width vs p ts) (substitute C (that ∷ []))

module _ (names : List (Kind × List ℕ)) (w : Label → ℕ) (width : Trees → ℕ) (one : (f : ℕ) → w (Symbol f) ≡ 1)
    (wide : (ts : Trees) (term : Term) → Codes names ts term → sum_by w (listed term []) ≡ width ts) (this : Term) (some : 0 < sum_by w (listed this [])) where
  at-once : (ts : Trees) → Codes names ts this → CodesThere names width (Hole 0) this 0 ts
  at-once ts c = record { codes = c; changes = λ vs that d. d }

  leaf-node : (term : Term) (f : ℕ) (a b : Term) → term ≡ Leaf → term ≡ Node f a b → ⊥
  leaf-node term f a b d e = let h : Leaf ≡ Node f a b = sym d ∙ e in absurd cc

  module _ (f : ℕ) (a b : Term) (k : Kind) (m v : List ℕ) (ks ts : Trees) (s : slice_get names f ≡ Some (k, m)) (below : Codes names ks (substitute a (this ∷ []))) (behind : Codes names ts (substitute b (this ∷ []))) where
    abbrev all : Trees
    all = more (node k m v ks) ts

    in-kids : holes_of a ≡ Hole 0 ∷ [] → holes_of b ≡ [] → CodesThere names width a this (hole_at w a) ks → CodesThere names width (Node f a b) this (hole_at w (Node f a b)) all
    in-kids h e r =
        let p : ℕ = hole_at w a in
        let low : p < width ks = omega (arith, weight-put w one a this h, wide ks (substitute a (this ∷ [])) below) in
        let is : hole_at w (Node f a b) ≡ suc p = hole-left w one f a b h in
        record {
          codes = rw is (subst (λ us. Codes names us this) (sym (if-below p (width ks) (reached width p ks) (reached width (p - width ks) ts) low)) r.codes);
          changes = λ vs that d.
              let there : replaced width vs (suc p) all ≡ more (node k m v (replaced width vs p ks)) ts =
              if-below p (width ks) (more (node k m v (replaced width vs p ks)) ts) (more (node k m v ks) (replaced width vs (p - width ks) ts)) low in
              let stays : substitute b (this ∷ []) ≡ substitute b (that ∷ []) = whole-stays b (this ∷ []) e ∙ sym (whole-stays b (that ∷ []) e) in
              rw is (subst (λ us. Codes names us (substitute (Node f a b) (that ∷ []))) (sym there) (f, substitute a (that ∷ []), substitute b (that ∷ []), s, r.changes vs that d, subst (Codes names ts) stays behind, refl));
        }

    in-others : holes_of a ≡ [] → CodesThere names width b this (hole_at w b) ts → CodesThere names width (Node f a b) this (hole_at w (Node f a b)) all
    in-others h r =
        let q : ℕ = hole_at w b in
        let p : ℕ = width ks + q in
        let a-is : sum_by w (listed a []) ≡ width ks = ap (λ t. sum_by w (listed t [])) (sym (whole-stays a (this ∷ []) h)) ∙ wide ks (substitute a (this ∷ [])) below in
        let is : hole_at w (Node f a b) ≡ suc p = omega (arith, hole-right w one f a b h, a-is) in
        let d-is : p - width ks ≡ q = omega arith in
        let reaches : reached width (suc p) all ≡ reached width q ts = if-from p (width ks) (reached width p ks) (reached width (p - width ks) ts) (omega arith) ∙ ap (λ (i : ℕ). reached width i ts) d-is in
        record {
          codes = rw is (subst (λ us. Codes names us this) (sym reaches) r.codes);
          changes = λ vs that d.
              let there : replaced width vs (suc p) all ≡ more (node k m v ks) (replaced width vs q ts) =
              if-from p (width ks) (more (node k m v (replaced width vs p ks)) ts) (more (node k m v ks) (replaced width vs (p - width ks) ts)) (omega arith) ∙ ap (λ (i : ℕ). more (node k m v ks) (replaced width vs i ts)) d-is in
              let stays : substitute a (this ∷ []) ≡ substitute a (that ∷ []) = whole-stays a (this ∷ []) h ∙ sym (whole-stays a (that ∷ []) h) in
              rw is (subst (λ us. Codes names us (substitute (Node f a b) (that ∷ []))) (sym there) (f, substitute a (that ∷ []), substitute b (that ∷ []), s, subst (Codes names ks) stays below, r.changes vs that d, refl));
        }

  pub codes-there : (C : Term) (ts : Trees) → holes_of C ≡ Hole 0 ∷ [] → Codes names ts (substitute C (this ∷ [])) → CodesThere names width C this (hole_at w C) ts
  codes-there Leaf ts h c = absurd (let n = ap length h in omega (arith, n))
  codes-there (Hole i) ts h c =
      let z : i ≡ 0 = cc in
      subst (λ (j : ℕ). CodesThere names width (Hole j) this 0 ts) (sym z) (at-once ts (subst (λ (j : ℕ). Codes names ts (get_or (this ∷ []) j Leaf)) z c))
  codes-there (Node f a b) none h c = absurd (leaf-node (Node f (substitute a (this ∷ [])) (substitute b (this ∷ []))) f (substitute a (this ∷ [])) (substitute b (this ∷ [])) c refl)
  codes-there (Node f a b) (more (node k m v ks) ts) h c = by_side (codes-there a ks) (codes-there b ts) (one-hole (holes_of a) (holes_of b) h)
    where
      nodes : Node f (substitute a (this ∷ [])) (substitute b (this ∷ [])) ≡ Node c.0 c.1 c.2
      nodes = c.6

      symbol : slice_get names f ≡ Some (k, m)
      symbol = let e : f ≡ c.0 = let d = nodes in cc in ap (slice_get names) e ∙ c.3

      below : Codes names ks (substitute a (this ∷ []))
      below = let e : c.1 ≡ substitute a (this ∷ []) = let d = nodes in cc in subst (Codes names ks) e c.4

      behind : Codes names ts (substitute b (this ∷ []))
      behind = let e : c.2 ≡ substitute b (this ∷ []) = let d = nodes in cc in subst (Codes names ts) e c.5

      by_side : (holes_of a ≡ Hole 0 ∷ [] → Codes names ks (substitute a (this ∷ [])) → CodesThere names width a this (hole_at w a) ks)
          → (holes_of b ≡ Hole 0 ∷ [] → Codes names ts (substitute b (this ∷ [])) → CodesThere names width b this (hole_at w b) ts)
          → ((holes_of a ≡ Hole 0 ∷ []) × (holes_of b ≡ [])) ⊎ ((holes_of a ≡ []) × (holes_of b ≡ Hole 0 ∷ [])) → CodesThere names width (Node f a b) this (hole_at w (Node f a b)) (more (node k m v ks) ts)
      by_side A B (inl l) = in-kids f a b k m v ks ts symbol below behind l.0 l.1 (A l.0 below)
      by_side A B (inr r) = in-others f a b k m v ks ts symbol below behind r.0 (B r.1 behind)

-- the hole of a term stands where its parameter stands in preorder
pub hole-there : (w : Label → ℕ) (C : Term) (xs ys : List Label) → holes_of C ≡ Hole 0 ∷ [] → listed C [] ≡ xs ++ Param ∷ ys → hole_at w C ≡ sum_by w xs
hole-there w C xs ys h e = ap (λ ls. sum_by w (segment 0 ls)) e ∙ ap (sum_by w) (front xs few)
  where
    all : params (listed C []) ≡ 1
    all = omega (arith, params-listed C [], ap length h)

    params-before : (xs : List Label) → params (xs ++ Param ∷ ys) ≡ params xs + suc (params ys)
    params-before [] = omega arith
    params-before (Param ∷ xs) = omega (arith, params-before xs)
    params-before (Bottom ∷ xs) = params-before xs
    params-before (Symbol f ∷ xs) = params-before xs
    params-before (Call q ∷ xs) = params-before xs

    few : params xs ≡ 0
    few = omega (arith, all, ap params e, params-before xs)

    front : (xs : List Label) → params xs ≡ 0 → segment 0 (xs ++ Param ∷ ys) ≡ xs
    front [] f = refl
    front (Param ∷ xs) f = absurd (omega arith)
    front (Bottom ∷ xs) f = ap (λ ls. Bottom ∷ ls) (front xs f)
    front (Symbol g ∷ xs) f = ap (λ ls. Symbol g ∷ ls) (front xs f)
    front (Call q ∷ xs) f = ap (λ ls. Call q ∷ ls) (front xs f)
