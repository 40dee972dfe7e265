-- How deep nodes stand, and which child has a place.
use Rattle.std.proofs.Common.{◌≡◌, ◌<◌, ◌+◌, ℕ, zero, suc, List, [], ◌∷◌, ◌++◌, get_or, drop, Option, Some, None, slice_get, refl, ap, sym, ◌∙◌, arith}
use Rattle.rule_arena.specs.Preorder.{parents, places}
use Rattle.rule_arena.specs.Terms.{Node, kids_of}
use Rattle.digram_index.specs.Digrams.{parent_node}
use Rattle.digram_index.proofs.ParentLemmas.{InPlaces, below, beside, in-places, from-drop}

pub same_some : {X : Type 0} (a b : X) → Some a ≡ Some b → a ≡ b
same_some a b q = cc

-- one depth for each child
abbrev pub depths : ℕ → ℕ → List ℕ
depths zero d = []
depths (suc n) d = d ∷ depths n d

-- the depth of each node, from the depths of the open places
abbrev pub levels : List ℕ → List Node → List ℕ
levels ds [] = []
levels ds (n ∷ ns) = get_or ds 0 0 ∷ levels (depths n.kids (suc (get_or ds 0 0)) ++ drop 1 ds) ns

abbrev pub level : List Node → ℕ → ℕ
level ns p = get_or (levels (0 ∷ []) ns) p 0

depth-below : (n d : ℕ) (ds : List ℕ) (j : ℕ) → j < n → get_or (depths n d ++ ds) j 0 ≡ d
depth-below zero d ds j h = absurd (omega arith)
depth-below (suc n) d ds zero h = refl
depth-below (suc n) d ds (suc j) h = depth-below n d ds j (omega arith)

depth-beside : (n d : ℕ) (ds : List ℕ) (j k : ℕ) → j ≡ n + k → get_or (depths n d ++ ds) j 0 ≡ get_or ds k 0
depth-beside zero d ds j k e = ap (λ i. get_or ds i 0) (omega arith)
depth-beside (suc n) d ds zero k e = absurd (omega arith)
depth-beside (suc n) d ds (suc j) k e = depth-beside n d ds j k (omega arith)

drop-depth : (ds : List ℕ) (k : ℕ) → get_or (drop 1 ds) k 0 ≡ get_or ds (suc k) 0
drop-depth [] k = refl
drop-depth (d ∷ ds) k = refl

-- where a node's parent comes from, with its depth
data From (os : List (Option (Node × ℕ))) (ds : List ℕ) (ns : List Node) (p : ℕ) (u : Node × ℕ) : Type 0 where
  open_place : (i : ℕ) → get_or os i None ≡ Some u → get_or (levels ds ns) p 0 ≡ get_or ds i 0 → From os ds ns p u
  node : (q : ℕ) → q < p → slice_get ns q ≡ Some u.0 → get_or (levels ds ns) p 0 ≡ suc (get_or (levels ds ns) q 0) → From os ds ns p u

comes : (ns : List Node) (os : List (Option (Node × ℕ))) (ds : List ℕ) (p : ℕ) (u : Node × ℕ) → get_or (parents kids_of (λ n. n) os ns) p None ≡ Some u → From os ds ns p u
comes [] os ds p u e = absurd (let z : None ≡ Some u = e in cc)
comes (n ∷ ns) os ds zero u e = open_place 0 e refl
comes (n ∷ ns) os ds (suc p) u e = up (comes ns (places n 1 n.kids ++ drop 1 os) (depths n.kids (suc (get_or ds 0 0)) ++ drop 1 ds) p u e)
  where
    at : (i : ℕ) → get_or (levels ds (n ∷ ns)) (suc p) 0 ≡ get_or (depths n.kids (suc (get_or ds 0 0)) ++ drop 1 ds) i 0 → InPlaces n 1 n.kids (drop 1 os) i u → From os ds (n ∷ ns) (suc p) u
    at i l (below a b) = node 0 (omega arith) (ap (λ (v : Node × ℕ). Some v.0) (sym a)) (l ∙ depth-below n.kids (suc (get_or ds 0 0)) (drop 1 ds) i b)
    at i l (beside k a b) = open_place (suc k) (sym (from-drop os k) ∙ b) (l ∙ depth-beside n.kids (suc (get_or ds 0 0)) (drop 1 ds) i k a ∙ drop-depth ds k)

    up : From (places n 1 n.kids ++ drop 1 os) (depths n.kids (suc (get_or ds 0 0)) ++ drop 1 ds) ns p u → From os ds (n ∷ ns) (suc p) u
    up (open_place i h l) = at i l (in-places n 1 n.kids (drop 1 os) i u h)
    up (node q l h d) = node (suc q) (omega arith) h d

-- a node's parent stands before it, one level above
pub parent-level : (ns : List Node) (p : ℕ) (u : Node × ℕ) → parent_node ns p ≡ Some u → (q : ℕ) × ((q < p) × ((slice_get ns q ≡ Some u.0) × (level ns p ≡ suc (level ns q))))
parent-level ns p u e = at (comes ns (None ∷ []) (0 ∷ []) p u e)
  where
    none : (i : ℕ) → get_or (None ∷ []) i None ≡ Some u → ⊥
    none zero h = let z : None ≡ Some u = h in cc
    none (suc i) h = let z : None ≡ Some u = h in cc

    at : From (None ∷ []) (0 ∷ []) ns p u → (q : ℕ) × ((q < p) × ((slice_get ns q ≡ Some u.0) × (level ns p ≡ suc (level ns q))))
    at (open_place i h l) = absurd (none i h)
    at (node q l h d) = (q, (l, (h, d)))

-- the keys of nodes are different
abbrev pub OnceKeyed : List Node → Type 0
OnceKeyed ns = (p q : ℕ) (m n : Node) → slice_get ns p ≡ Some m → slice_get ns q ≡ Some n → m.key ≡ n.key → p ≡ q

-- open places are different, and of no nodes that are still to come
record AreOpen (os : List (Option (Node × ℕ))) (ns : List Node) : Type 0 where
  pub once : (i j : ℕ) (u v : Node × ℕ) → get_or os i None ≡ Some u → get_or os j None ≡ Some v → u.0.key ≡ v.0.key → u.1 ≡ v.1 → i ≡ j
  pub apart : (i p : ℕ) (u : Node × ℕ) (n : Node) → get_or os i None ≡ Some u → slice_get ns p ≡ Some n → u.0.key ≡ n.key → ⊥

next-open : (x : Node) (ns : List Node) (os : List (Option (Node × ℕ))) → AreOpen os (x ∷ ns) → OnceKeyed (x ∷ ns) → AreOpen (places x 1 x.kids ++ drop 1 os) ns
next-open x ns os O D = record {
  once = λ i j u v a b k c. once' i j u v (in-places x 1 x.kids (drop 1 os) i u a) (in-places x 1 x.kids (drop 1 os) j v b) k c;
  apart = λ i p u n a b k. apart' i p u n (in-places x 1 x.kids (drop 1 os) i u a) b k;
}
  where
    once' : (i j : ℕ) (u v : Node × ℕ) → InPlaces x 1 x.kids (drop 1 os) i u → InPlaces x 1 x.kids (drop 1 os) j v → u.0.key ≡ v.0.key → u.1 ≡ v.1 → i ≡ j
    once' i j u v (below a l) (below b m) k c = let x1 = ap (λ (w : Node × ℕ). w.1) a in let y1 = ap (λ (w : Node × ℕ). w.1) b in omega arith
    once' i j u v (below a l) (beside q b m) k c = absurd (O.apart (suc q) 0 v x (sym (from-drop os q) ∙ m) refl (sym k ∙ ap (λ (w : Node × ℕ). w.0.key) a))
    once' i j u v (beside q a l) (below b m) k c = absurd (O.apart (suc q) 0 u x (sym (from-drop os q) ∙ l) refl (k ∙ ap (λ (w : Node × ℕ). w.0.key) b))
    once' i j u v (beside q a l) (beside r b m) k c = let z = O.once (suc q) (suc r) u v (sym (from-drop os q) ∙ l) (sym (from-drop os r) ∙ m) k c in omega arith

    apart' : (i p : ℕ) (u : Node × ℕ) (n : Node) → InPlaces x 1 x.kids (drop 1 os) i u → slice_get ns p ≡ Some n → u.0.key ≡ n.key → ⊥
    apart' i p u n (below a l) b k = let z : 0 ≡ suc p = D 0 (suc p) x n refl b (sym (ap (λ (w : Node × ℕ). w.0.key) a) ∙ k) in omega arith
    apart' i p u n (beside q a l) b k = O.apart (suc q) (suc p) u n (sym (from-drop os q) ∙ l) b k

later-once : (x : Node) (ns : List Node) → OnceKeyed (x ∷ ns) → OnceKeyed ns
later-once x ns D = λ p q m n a b k. let z = D (suc p) (suc q) m n a b k in omega arith

-- the first place is of no later node
head-apart : (x : Node) (ns : List Node) (os : List (Option (Node × ℕ))) → AreOpen os (x ∷ ns) → (p : ℕ) (u v : Node × ℕ) → get_or os 0 None ≡ Some u → get_or (parents kids_of (λ n. n) (places x 1 x.kids ++ drop 1 os) ns) p None ≡ Some v → u.0.key ≡ v.0.key → u.1 ≡ v.1 → ⊥
head-apart x ns os O p u v a b k c = at (comes ns (places x 1 x.kids ++ drop 1 os) [] p v b)
  where
    open' : (i : ℕ) → InPlaces x 1 x.kids (drop 1 os) i v → ⊥
    open' i (below e l) = O.apart 0 0 u x a refl (k ∙ ap (λ (w : Node × ℕ). w.0.key) e)
    open' i (beside q e l) = let z : 0 ≡ suc q = O.once 0 (suc q) u v a (sym (from-drop os q) ∙ l) k c in omega arith

    at : From (places x 1 x.kids ++ drop 1 os) [] ns p v → ⊥
    at (open_place i h l) = open' i (in-places x 1 x.kids (drop 1 os) i v h)
    at (node q l h d) = O.apart 0 (suc q) u v.0 a h k

one-child : (ns : List Node) (os : List (Option (Node × ℕ))) → AreOpen os ns → OnceKeyed ns → (p q : ℕ) (u v : Node × ℕ) → get_or (parents kids_of (λ n. n) os ns) p None ≡ Some u → get_or (parents kids_of (λ n. n) os ns) q None ≡ Some v → u.0.key ≡ v.0.key → u.1 ≡ v.1 → p ≡ q
one-child [] os O D p q u v a b k c = absurd (let z : None ≡ Some u = a in cc)
one-child (x ∷ ns) os O D zero zero u v a b k c = refl
one-child (x ∷ ns) os O D zero (suc q) u v a b k c = absurd (head-apart x ns os O q u v a b k c)
one-child (x ∷ ns) os O D (suc p) zero u v a b k c = absurd (head-apart x ns os O p v u b a (sym k) (sym c))
one-child (x ∷ ns) os O D (suc p) (suc q) u v a b k c = ap suc (one-child ns (places x 1 x.kids ++ drop 1 os) (next-open x ns os O D) (later-once x ns D) p q u v a b k c)

-- at one place below a node stands one child
pub one-kid : (ns : List Node) → OnceKeyed ns → (p q : ℕ) (u v : Node × ℕ) → parent_node ns p ≡ Some u → parent_node ns q ≡ Some v → u.0.key ≡ v.0.key → u.1 ≡ v.1 → p ≡ q
one-kid ns D p q u v a b k c = one-child ns (None ∷ []) nothing D p q u v a b k c
  where
    none : (i : ℕ) (w : Node × ℕ) → get_or (None ∷ []) i None ≡ Some w → ⊥
    none zero w h = let z : None ≡ Some w = h in cc
    none (suc i) w h = let z : None ≡ Some w = h in cc

    nothing : AreOpen (None ∷ []) ns
    nothing = record { once = λ i j x y h. absurd (none i x h); apart = λ i p x n h. absurd (none i x h) }
