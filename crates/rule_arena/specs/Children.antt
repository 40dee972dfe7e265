-- A node's child in preorder, with what stands before it and after it.
use Rattle.std.specs.Prelude.{◌≡◌, ◌+◌, ℕ, suc, List, ◌∷◌, ◌++◌, length}
use Rattle.rule_arena.specs.Preorder.{AreTerms}
use Rattle.rule_arena.specs.Terms.{Node, kids_of}
use Rattle.rule_arena.specs.declared.key.Key.{Key}
use Rattle.rule_arena.specs.declared.label.Label.{Label}

-- n terms and what follows them; the root of the one after c others has this key
pub record Child (ns : List Node) (n c : ℕ) (key : Key) : Type 0 where
  pub before : List Node
  pub node : Node
  pub below : List Node
  pub after : List Node
  pub back : List Node
  pub more : ℕ
  pub split : ns ≡ before ++ ((node ∷ below) ++ (after ++ back))
  pub named : node.key ≡ key
  pub many : n ≡ c + suc more
  pub before_terms : AreTerms kids_of c before
  pub below_terms : AreTerms kids_of node.kids below
  pub after_terms : AreTerms kids_of more after

-- this node stands at a place, and its child after c others has this key
pub record ChildAt (ns : List Node) (place : ℕ) (N : Node) (c : ℕ) (key : Key) : Type 0 where
  pub front : List Node
  pub rest : List Node
  pub split : ns ≡ front ++ (N ∷ rest)
  pub at : length front ≡ place
  pub child : Child rest N.kids c key

-- the node and its child as one node with this label, over the children of both
abbrev pub merged : (N : Node) (rest : List Node) (c : ℕ) (key : Key) → Child rest N.kids c key → Label → List Node
merged N rest c key C l = record { key = N.key; label = l; kids = c + (C.node.kids + C.more) } ∷ (C.before ++ (C.below ++ C.after))
