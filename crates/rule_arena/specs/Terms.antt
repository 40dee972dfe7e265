-- Terms whose nodes carry their keys, in preorder.
use Rattle.std.specs.Prelude.{◌≡◌, ◌≢◌, ◌<◌, ℕ, zero, suc, List, [], ◌∷◌, ◌++◌, map, length, Option, Some, None, IsSome, slice_get, get_or}
use Rattle.std.specs.List.{sum_by}
use Rattle.rule_arena.specs.Preorder.{AreTerms, roots, parents}
use Rattle.rule_arena.specs.declared.label.Label.{Label}
use Rattle.rule_arena.specs.declared.key.Key.{Key}

-- a node with the number of its children
pub record Node : Type 0 where
  pub key : Key
  pub label : Label
  pub kids : ℕ

-- what contracts see of an arena: the terms by the numbers of their roots, how many more nodes have room, and a number above all nodes
pub record Terms : Type 0 where
  pub terms : List (Option (List Node))
  pub spare : ℕ
  pub limit : ℕ

-- a root's term
abbrev pub term_at : Terms → ℕ → Option (List Node)
term_at a k = get_or a.terms k None

-- a key names a root
abbrev pub IsRoot : Terms → Key → Type 0
IsRoot a k = IsSome (term_at a k.number)

-- each of these keys names a root
abbrev pub AreRoots : Terms → List Key → Type 0
AreRoots a ks = (i : ℕ) (k : Key) → slice_get ks i ≡ Some k → IsRoot a k

-- no two of these keys have one number
abbrev pub AreDistinctKeys : List Key → Type 0
AreDistinctKeys ks = (i j : ℕ) (k m : Key) → slice_get ks i ≡ Some k → slice_get ks j ≡ Some m → k.number ≡ m.number → i ≡ j

-- none of these keys has this number
abbrev pub Apart : List Key → ℕ → Type 0
Apart ks r = (i : ℕ) (k : Key) → slice_get ks i ≡ Some k → k.number ≢ r

-- how many children a node has
abbrev pub kids_of : Node → ℕ
kids_of n = n.kids

-- a node's key
abbrev pub key_of : Node → Key
key_of n = n.key

-- the key at a place
abbrev pub key_in : List Node → ℕ → Option Key
key_in [] p = None
key_in (n ∷ ns) zero = Some n.key
key_in (n ∷ ns) (suc p) = key_in ns p

-- a key stands at a place of a root's term
pub record At (a : Terms) (key : Key) : Type 0 where
  pub root : ℕ
  pub nodes : List Node
  pub place : ℕ
  pub stands : term_at a root ≡ Some nodes
  pub there : key_in nodes place ≡ Some key

-- the nodes with another label at a place
abbrev pub labelled : List Node → ℕ → Label → List Node
labelled [] p l = []
labelled (n ∷ ns) zero l = record n { label = l } ∷ ns
labelled (n ∷ ns) (suc p) l = n ∷ labelled ns p l

-- the parent of the node at a place of a term, with the place under it from 1 on
abbrev pub parent_in : List Node → ℕ → Option (Key × ℕ)
parent_in ns p = get_or (parents kids_of key_of (None ∷ []) ns) p None

-- the keys of the children of the node at a place
abbrev pub kids_in : List Node → ℕ → List Key
kids_in [] p = []
kids_in (n ∷ ns) zero = map key_of (roots kids_of n.kids ns)
kids_in (n ∷ ns) (suc p) = kids_in ns p

-- a term's nodes, or none
abbrev pub or_nothing : Option (List Node) → List Node
or_nothing None = []
or_nothing (Some ns) = ns

-- how many nodes all terms have together
abbrev pub node_count : Terms → ℕ
node_count a = sum_by (λ term. length (or_nothing term)) a.terms

-- the terms of these roots, one after another
abbrev pub joined : Terms → List Key → List Node
joined a [] = []
joined a (k ∷ ks) = or_nothing (term_at a k.number) ++ joined a ks

-- what is true of every arena: a term begins with its root and is one term, a key stands once, and its number is below the limit
pub record IsSound (a : Terms) : Type 0 where
  pub first : (r : ℕ) (ns : List Node) → term_at a r ≡ Some ns → key_in ns 0 ≡ Some (record { number = r })
  pub term : (r : ℕ) (ns : List Node) → term_at a r ≡ Some ns → AreTerms kids_of 1 ns
  pub once : (key : Key) (x y : At a key) → (x.root ≡ y.root) × (x.place ≡ y.place)
  pub below : (key : Key) → At a key → key.number < a.limit
