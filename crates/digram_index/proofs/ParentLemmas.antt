-- The node above a node.
use Rattle.std.proofs.Common.{◌≡◌, ◌<◌, ◌+◌, ℕ, zero, suc, List, [], ◌∷◌, ◌++◌, get_or, drop, Option, Some, None, slice_get, refl, ap, sym, ◌∙◌, arith}
use Rattle.rule_arena.specs.Preorder.{parents, places}
use Rattle.rule_arena.specs.Terms.{Node, kids_of, key_of, parent_in}
use Rattle.rule_arena.specs.declared.key.Key.{Key}
use Rattle.digram_index.specs.Digrams.{parent_node}

-- the keys of nodes with places
abbrev pub keyed_place : Option (Node × ℕ) → Option (Key × ℕ)
keyed_place None = None
keyed_place (Some u) = Some (u.0.key, u.1)

-- open places that name one another's keys
abbrev pub SameOpen : List (Option (Node × ℕ)) → List (Option (Key × ℕ)) → Type 0
SameOpen os ks = (i : ℕ) → get_or ks i None ≡ keyed_place (get_or os i None)

same-places : (x : Node) (i n : ℕ) (os : List (Option (Node × ℕ))) (ks : List (Option (Key × ℕ))) → SameOpen os ks → SameOpen (places x i n ++ os) (places x.key i n ++ ks)
same-places x i zero os ks S = S
same-places x i (suc n) os ks S = at (same-places x (suc i) n os ks S)
  where
    at : SameOpen (places x (suc i) n ++ os) (places x.key (suc i) n ++ ks) → (j : ℕ) → get_or (Some (x.key, i) ∷ (places x.key (suc i) n ++ ks)) j None ≡ keyed_place (get_or (Some (x, i) ∷ (places x (suc i) n ++ os)) j None)
    at again zero = refl
    at again (suc j) = again j

same-drop : (os : List (Option (Node × ℕ))) (ks : List (Option (Key × ℕ))) → SameOpen os ks → SameOpen (drop 1 os) (drop 1 ks)
same-drop [] [] S = S
same-drop [] (k ∷ ks) S = λ i. S (suc i)
same-drop (o ∷ os) [] S = λ i. S (suc i)
same-drop (o ∷ os) (k ∷ ks) S = λ i. S (suc i)

parents-keys : (ns : List Node) (os : List (Option (Node × ℕ))) (ks : List (Option (Key × ℕ))) → SameOpen os ks → (p : ℕ) → get_or (parents kids_of key_of ks ns) p None ≡ keyed_place (get_or (parents kids_of (λ n. n) os ns) p None)
parents-keys [] os ks S p = refl
parents-keys (n ∷ ns) os ks S zero = S 0
parents-keys (n ∷ ns) os ks S (suc p) = parents-keys ns (places n 1 n.kids ++ drop 1 os) (places n.key 1 n.kids ++ drop 1 ks) (same-places n 1 n.kids (drop 1 os) (drop 1 ks) (same-drop os ks S)) p

-- a node's parent as the grammar tells it
pub parent-key : (ns : List Node) (p : ℕ) → parent_in ns p ≡ keyed_place (parent_node ns p)
parent-key ns p = parents-keys ns (None ∷ []) (None ∷ []) (λ i. at i) p
  where
    at : (i : ℕ) → get_or (None ∷ []) i None ≡ keyed_place (get_or (None ∷ []) i None)
    at zero = refl
    at (suc i) = refl

-- what is in an open place
pub data InPlaces (x : Node) (i n : ℕ) (os : List (Option (Node × ℕ))) (j : ℕ) (u : Node × ℕ) : Type 0 where
  below : u ≡ (x, i + j) → j < n → InPlaces x i n os j u
  beside : (k : ℕ) → j ≡ n + k → get_or os k None ≡ Some u → InPlaces x i n os j u

pub in-places : (x : Node) (i n : ℕ) (os : List (Option (Node × ℕ))) (j : ℕ) (u : Node × ℕ) → get_or (places x i n ++ os) j None ≡ Some u → InPlaces x i n os j u
in-places x i zero os j u e = beside j (omega arith) e
in-places x i (suc n) os zero u e = below (same (x, i) u e ∙ ap (λ m. (x, m)) (omega arith)) (omega arith)
  where
    same : (a b : Node × ℕ) → Some a ≡ Some b → b ≡ a
    same a b q = let z : a ≡ b = cc in sym z
in-places x i (suc n) os (suc j) u e = up (in-places x (suc i) n os j u e)
  where
    up : InPlaces x (suc i) n os j u → InPlaces x i (suc n) os (suc j) u
    up (below a b) = below (a ∙ ap (λ m. (x, m)) (omega arith)) (omega arith)
    up (beside k a b) = beside k (omega arith) b

-- where a node's parent comes from: an open place, or a node before it
data From (os : List (Option (Node × ℕ))) (ns : List Node) (p : ℕ) (u : Node × ℕ) : Type 0 where
  open_place : (i : ℕ) → get_or os i None ≡ Some u → From os ns p u
  node : (q : ℕ) → q < p → slice_get ns q ≡ Some u.0 → From os ns p u

pub from-drop : (os : List (Option (Node × ℕ))) (k : ℕ) → get_or (drop 1 os) k None ≡ get_or os (suc k) None
from-drop [] k = refl
from-drop (o ∷ os) k = refl

comes : (ns : List Node) (os : List (Option (Node × ℕ))) (p : ℕ) (u : Node × ℕ) → get_or (parents kids_of (λ n. n) os ns) p None ≡ Some u → From os ns p u
comes [] os p u e = absurd (let z : None ≡ Some u = e in cc)
comes (n ∷ ns) os zero u e = open_place 0 e
comes (n ∷ ns) os (suc p) u e = up (comes ns (places n 1 n.kids ++ drop 1 os) p u e)
  where
    at : (i : ℕ) → InPlaces n 1 n.kids (drop 1 os) i u → From os (n ∷ ns) (suc p) u
    at i (below a b) = node 0 (omega arith) (ap (λ (v : Node × ℕ). Some v.0) (sym a))
    at i (beside k a b) = open_place (suc k) (sym (from-drop os k) ∙ b)

    up : From (places n 1 n.kids ++ drop 1 os) ns p u → From os (n ∷ ns) (suc p) u
    up (open_place i h) = at i (in-places n 1 n.kids (drop 1 os) i u h)
    up (node q l h) = node (suc q) (omega arith) h

-- a node's parent stands before it
pub parent-there : (ns : List Node) (p : ℕ) (u : Node × ℕ) → parent_node ns p ≡ Some u → (q : ℕ) × ((q < p) × (slice_get ns q ≡ Some u.0))
parent-there ns p u e = at (comes ns (None ∷ []) p u e)
  where
    none : (i : ℕ) → get_or (None ∷ []) i None ≡ Some u → ⊥
    none zero h = let z : None ≡ Some u = h in cc
    none (suc i) h = let z : None ≡ Some u = h in cc

    at : From (None ∷ []) ns p u → (q : ℕ) × ((q < p) × (slice_get ns q ≡ Some u.0))
    at (open_place i h) = absurd (none i h)
    at (node q l h) = (q, (l, h))
