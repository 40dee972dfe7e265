-- The tree of a document: a node has a kind, a name, a value and a list of kids.
use Rattle.std.specs.Prelude.{◌≡◌, ℕ, ◌+◌, List, [], ◌∷◌, refl}
use Rattle.std.specs.Coded.{Coded, coded_list, coded_ℕ}
use base.Stored.{coded_via}
use Rattle.plain_tree.specs.declared.kind.Kind.{Kind}
use Rattle.plain_tree.specs.declared.kind.Kind.TheVariants.{Document, Element, Attribute, Text, Comment, Instruction}

mutual
  pub data Tree : Type 0 where
    node : (kind : Kind) (name value : List ℕ) (kids : Trees) → Tree

  -- a list of trees, written out
  pub data Trees : Type 0 where
    none : Trees
    more : (first : Tree) (rest : Trees) → Trees

abbrev pub trees : List Tree → Trees
trees [] = none
trees (t ∷ ts) = more t (trees ts)

abbrev pub list_of : Trees → List Tree
list_of none = []
list_of (more t ts) = t ∷ list_of ts

abbrev mutual
  -- how many nodes a tree has
  pub node_count : Tree → ℕ
  node_count (node kind name value kids) = node_count_all kids + 1

  pub node_count_all : Trees → ℕ
  node_count_all none = 0
  node_count_all (more t ts) = node_count t + node_count_all ts

abbrev pub list_count : List Tree → ℕ
list_count ts = node_count_all (trees ts)

-- the number of a kind, from 0 on
abbrev pub kind_code : Kind → ℕ
kind_code Document = 0
kind_code Element = 1
kind_code Attribute = 2
kind_code Text = 3
kind_code Comment = 4
kind_code Instruction = 5

-- A one to one code of trees, which a model asks for: the parts in preorder, and what follows them.
abbrev mutual
  pub tree_parts : Tree → List (List ℕ) → List (List ℕ)
  tree_parts (node kind name value kids) after = (kind_code kind ∷ []) ∷ name ∷ value ∷ trees_parts kids after

  pub trees_parts : Trees → List (List ℕ) → List (List ℕ)
  trees_parts none after = [] ∷ after
  trees_parts (more t ts) after = tree_parts t (trees_parts ts after)

pub kind_code-inj : (a b : Kind) → kind_code a ≡ kind_code b → a ≡ b
kind_code-inj Document Document e = refl
kind_code-inj Element Element e = refl
kind_code-inj Attribute Attribute e = refl
kind_code-inj Text Text e = refl
kind_code-inj Comment Comment e = refl
kind_code-inj Instruction Instruction e = refl
kind_code-inj _ _ e = cc

mutual
  pub tree_parts-inj : (s t : Tree) (x y : List (List ℕ)) → tree_parts s x ≡ tree_parts t y → (s ≡ t) × (x ≡ y)
  tree_parts-inj (node k n v ks) (node l m w ls) x y e =
      let kinds : kind_code k ≡ kind_code l = cc in
      let same = kind_code-inj k l kinds in
      let rest : trees_parts ks x ≡ trees_parts ls y = cc in
      let below = trees_parts-inj ks ls x y rest in
      (cc, cc)

  pub trees_parts-inj : (s t : Trees) (x y : List (List ℕ)) → trees_parts s x ≡ trees_parts t y → (s ≡ t) × (x ≡ y)
  trees_parts-inj none none x y e = (refl, cc)
  trees_parts-inj (more (node k n v ks) ts) none x y e = cc
  trees_parts-inj none (more (node k n v ks) ts) x y e = cc
  trees_parts-inj (more s ss) (more t ts) x y e =
      let first = tree_parts-inj s t (trees_parts ss x) (trees_parts ts y) e in
      let rest = trees_parts-inj ss ts x y first.1 in
      (cc, cc)

pub tree_code-inj : (s t : Tree) → tree_parts s [] ≡ tree_parts t [] → s ≡ t
tree_code-inj s t e = (tree_parts-inj s t [] [] e).0

abbrev pub tree_code : Coded Tree
tree_code = coded_via (coded_list (coded_list coded_ℕ)) (λ t. tree_parts t []) tree_code-inj
