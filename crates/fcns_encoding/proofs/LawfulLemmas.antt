-- Names that are allowed.
use Rattle.std.proofs.Common.{◌≡◌, zero, suc, List, [], ◌∷◌, ◌++◌, map, refl, sym, subst, inl, inr}
use Rattle.std.proofs.lemmas.List.{map-append}
use Rattle.plain_tree.specs.Tree.{Tree, node, Trees, none, more}
use Rattle.plain_tree.specs.Numbers.{nodes, nodes_all}
use Rattle.plain_tree.specs.Lawful.{IsDocument, IsLawfulName, IsLawfulTree, AreLawfulTrees}
use Rattle.fcns_encoding.specs.Interning.{Pair, Interns, tree_pair, pairs_of_tree, pairs_of_trees}
use Rattle.fcns_encoding.specs.Laws.{AreLawful}

lawful-at : (p q : Pair) → p ≡ q → IsLawfulName p.0 p.1 → IsLawfulName q.0 q.1
lawful-at p q e h = subst (λ (r : Pair). IsLawfulName r.0 r.1) e h

pub none-lawful : AreLawful []
none-lawful i kind name e = cc

pub lawful-cons : (p : Pair) (ps : List Pair) → IsLawfulName p.0 p.1 → AreLawful ps → AreLawful (p ∷ ps)
lawful-cons p ps h all zero kind name e = let same : p ≡ (kind, name) = cc in lawful-at p (kind, name) same h
lawful-cons p ps h all (suc i) kind name e = all i kind name e

pub lawful-append : (ps qs : List Pair) → AreLawful ps → AreLawful qs → AreLawful (ps ++ qs)
lawful-append [] qs a b = b
lawful-append (p ∷ ps) qs a b = lawful-cons p (ps ++ qs) (a 0 p.0 p.1 refl) (lawful-append ps qs (λ i. a (suc i)) b)

pub Interns-lawful : (old ps new : List Pair) → Interns old ps new → AreLawful old → AreLawful ps → AreLawful new
Interns-lawful old [] new h a b = subst AreLawful (sym h) a
Interns-lawful old (p ∷ ps) new h a b =
    elim h [
      | inl w ↦ Interns-lawful old ps new w.1 a (λ i. b (suc i))
      | inr w ↦ Interns-lawful (old ++ p ∷ []) ps new w.1 (lawful-append old (p ∷ []) a (lawful-cons p [] (b 0 p.0 p.1 refl) none-lawful)) (λ i. b (suc i))
    ]

mutual
  tree-lawful : (t : Tree) → IsLawfulTree t → AreLawful (map tree_pair (nodes t))
  tree-lawful (node k n v ks) l = lawful-cons (k, n) (map tree_pair (nodes_all ks)) l.0.0 (trees-lawful ks l.2)

  pub trees-lawful : (ts : Trees) → AreLawfulTrees ts → AreLawful (map tree_pair (nodes_all ts))
  trees-lawful none l = none-lawful
  trees-lawful (more t ts) l =
      subst AreLawful (sym (map-append tree_pair (nodes t) (nodes_all ts))) (lawful-append (map tree_pair (nodes t)) (map tree_pair (nodes_all ts)) (tree-lawful t l.0) (trees-lawful ts l.1))

pub document-lawful : (t : Tree) → IsDocument t → AreLawful (pairs_of_tree t)
document-lawful t d = tree-lawful t d.lawful

pub names-lawful : (t : Tree) (old new : List Pair) → IsDocument t → Interns old (pairs_of_tree t) new → AreLawful old → AreLawful new
names-lawful t old new is h a = Interns-lawful old (pairs_of_tree t) new h a (document-lawful t is)

pub list-names-lawful : (ts : Trees) (old new : List Pair) → AreLawfulTrees ts → Interns old (pairs_of_trees ts) new → AreLawful old → AreLawful new
list-names-lawful ts old new are h a = Interns-lawful old (pairs_of_trees ts) new h a (trees-lawful ts are)
