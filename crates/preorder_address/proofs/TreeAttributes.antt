-- Attributes at the front of nodes.
use Rattle.std.proofs.Common.{◌≡◌, ℕ, zero, suc, ◌+◌, ◌*◌, List, [], ◌∷◌, take, drop, refl, ap, sym, ◌∙◌, arith, Option, None, Some, ◌⊎◌, inl, inr, subst}
use Rattle.std.specs.Prelude.{slice_get, option_map, IsSome}
use Rattle.std.proofs.Math.Nat.{suc-mul}
use Rattle.std.proofs.lemmas.Option.{same_Some}
use Rattle.plain_tree.specs.declared.kind.Kind.{Kind}
use Rattle.plain_tree.specs.declared.kind.Kind.TheVariants.{Document, Element, Attribute, Text, Comment, Instruction}
use Rattle.plain_tree.specs.Lawful.{IsLawfulTree, AreLawfulTrees}
use Rattle.plain_tree.specs.Numbers.{nodes, nodes_all, kind_of}
use Rattle.plain_tree.specs.Tree.{Tree, node, Trees, none, more, node_count_all}
use Rattle.preorder_address.specs.TreeNumbers.{attributes_in, attribute_places, after_attributes_at, kind_at, placed, kids_of}
use Rattle.preorder_address.proofs.Routing.{Each, Each-append}

drop-here : (xs : List Tree) (p : ℕ) (x : Tree) → slice_get xs p ≡ Some x → drop p xs ≡ x ∷ drop (p + 1) xs
drop-here [] p x e = cc
drop-here (y ∷ xs) zero x e = let f : y ≡ x = cc in ap (λ z. z ∷ xs) f
drop-here (y ∷ xs) (suc p) x e = let z : suc (p + 1) ≡ suc p + 1 = omega arith in drop-here xs p x e ∙ ap (λ (k : ℕ). x ∷ drop k (y ∷ xs)) z

drop-none : (xs : List Tree) (p : ℕ) → slice_get xs p ≡ None → drop p xs ≡ []
drop-none [] zero e = refl
drop-none [] (suc p) e = refl
drop-none (y ∷ xs) zero e = cc
drop-none (y ∷ xs) (suc p) e = drop-none xs p e

one-more : (s : Tree) (ts : List Tree) → kind_of s ≡ Attribute → attributes_in (s ∷ ts) ≡ attributes_in ts + 1
one-more (node Attribute n v ks) ts e = refl
one-more (node Document n v ks) ts e = cc
one-more (node Element n v ks) ts e = cc
one-more (node Text n v ks) ts e = cc
one-more (node Comment n v ks) ts e = cc
one-more (node Instruction n v ks) ts e = cc

no-more : (s : Tree) (ts : List Tree) → (kind_of s ≡ Attribute → ⊥) → attributes_in (s ∷ ts) ≡ 0
no-more (node Attribute n v ks) ts e = absurd (e refl)
no-more (node Document n v ks) ts e = refl
no-more (node Element n v ks) ts e = refl
no-more (node Text n v ks) ts e = refl
no-more (node Comment n v ks) ts e = refl
no-more (node Instruction n v ks) ts e = refl

-- the attributes from a number on, of some nodes
abbrev pub from_number : Tree → ℕ → ℕ → ℕ
from_number t first most = attributes_in (take most (drop first (nodes t)))

node-or-none : (t : Tree) (n : ℕ) → ((s : Tree) × (slice_get (nodes t) n ≡ Some s)) ⊎ (slice_get (nodes t) n ≡ None)
node-or-none t n = by_node (slice_get (nodes t) n) refl
  where
    by_node : (o : Option Tree) → slice_get (nodes t) n ≡ o → ((s : Tree) × (slice_get (nodes t) n ≡ Some s)) ⊎ (slice_get (nodes t) n ≡ None)
    by_node None e = inr e
    by_node (Some s) e = inl (s, e)

-- where an attribute has a number there is one more than from the next number on
pub attribute-more : (t : Tree) (n most : ℕ) → kind_at t n ≡ Some Attribute → from_number t n (suc most) ≡ from_number t (n + 1) most + 1
attribute-more t n most e = by_node (node-or-none t n)
  where
    by_node : ((s : Tree) × (slice_get (nodes t) n ≡ Some s)) ⊎ (slice_get (nodes t) n ≡ None) → from_number t n (suc most) ≡ from_number t (n + 1) most + 1
    by_node (inr o) = let f : None ≡ Some Attribute = sym (ap (option_map kind_of) o) ∙ e in cc
    by_node (inl (s, o)) =
        let f : Some (kind_of s) ≡ Some Attribute = sym (ap (option_map kind_of) o) ∙ e in
        ap (λ xs. attributes_in (take (suc most) xs)) (drop-here (nodes t) n s o) ∙ one-more s (take most (drop (n + 1) (nodes t))) (same_Some (kind_of s) Attribute f)

-- and where none has it there are none
pub attribute-none : (t : Tree) (n most : ℕ) → (kind_at t n ≡ Some Attribute → ⊥) → from_number t n most ≡ 0
attribute-none t n zero e = refl
attribute-none t n (suc most) e = by_node (node-or-none t n)
  where
    by_node : ((s : Tree) × (slice_get (nodes t) n ≡ Some s)) ⊎ (slice_get (nodes t) n ≡ None) → from_number t n (suc most) ≡ 0
    by_node (inr o) = ap (λ xs. attributes_in (take (suc most) xs)) (drop-none (nodes t) n o)
    by_node (inl (s, o)) =
        ap (λ xs. attributes_in (take (suc most) xs)) (drop-here (nodes t) n s o) ∙ no-more s (take most (drop (n + 1) (nodes t))) (λ k. e (ap (option_map kind_of) o ∙ ap Some k))

mutual
  -- the nodes of lawful trees are lawful
  tree-each : (t : Tree) → IsLawfulTree t → Each IsLawfulTree (nodes t)
  tree-each (node k n v ks) l = (l, trees-each ks l.2)

  trees-each : (ts : Trees) → AreLawfulTrees ts → Each IsLawfulTree (nodes_all ts)
  trees-each none l = tt
  trees-each (more t ts) l = Each-append IsLawfulTree (nodes t) (nodes_all ts) (tree-each t l.0) (trees-each ts l.1)

each-at : (ts : List Tree) (n : ℕ) (s : Tree) → Each IsLawfulTree ts → slice_get ts n ≡ Some s → IsLawfulTree s
each-at [] n s a e = cc
each-at (t ∷ ts) zero s a e = let f : t ≡ s = cc in subst IsLawfulTree f a.0
each-at (t ∷ ts) (suc n) s a e = each-at ts n s a.1 e

pub lawful-at : (t : Tree) → IsLawfulTree t → (n : ℕ) (s : Tree) → slice_get (nodes t) n ≡ Some s → IsLawfulTree s
lawful-at t l n s e = each-at (nodes t) n s (tree-each t l) e

-- lawful attributes have no kids, so each has two places
pub places-attributes : (ts : Trees) → AreLawfulTrees ts → attribute_places ts ≡ 2 * attributes_in (nodes_all ts)
places-attributes none l = refl
places-attributes (more (node Attribute n v none) ts) l = omega (arith, places-attributes ts l.1)
places-attributes (more (node Attribute n v (more k ks)) ts) l = absurd (let z = l.0.1 in cc)
places-attributes (more (node Document n v ks) ts) l = refl
places-attributes (more (node Element n v ks) ts) l = refl
places-attributes (more (node Text n v ks) ts) l = refl
places-attributes (more (node Comment n v ks) ts) l = refl
places-attributes (more (node Instruction n v ks) ts) l = refl

pub is-some : (o : Option Kind) (k : Kind) → o ≡ Some k → IsSome o
is-some None k e = cc
is-some (Some j) k e = refl

-- one turn more
pub turn-more : (p w : ℕ) → (p + 1) * w ≡ p * w + w
turn-more p w = let z : p + 1 ≡ suc p = omega arith in ap (λ k. k * w) z ∙ suc-mul p w

-- attributes from a node's number on are among those of its kids
pub after-told : (t : Tree) → IsLawfulTree t → (n b : ℕ) (k : Kind) (m v : List ℕ) (ks : Trees) → slice_get (nodes t) n ≡ Some (node k m v ks) → slice_get (placed 0 (more t none)) n ≡ Some (b, node k m v ks)
    → take (node_count_all ks) (drop (n + 1) (nodes t)) ≡ nodes_all ks → (e r : ℕ) → e ≡ node_count_all ks → r ≡ from_number t (n + 1) e → after_attributes_at t n ≡ Some (b + 1 + 2 * r)
after-told t l n b k m v ks s p i e r d f =
    let q = lawful-at t l n (node k m v ks) s in
    let a : r ≡ attributes_in (nodes_all ks) = f ∙ ap (λ j. attributes_in (take j (drop (n + 1) (nodes t)))) d ∙ ap attributes_in i in
    let z : b + 1 + attribute_places ks ≡ b + 1 + 2 * r = omega (arith, places-attributes ks q.2, a) in
    ap (option_map (λ e. e.0 + 1 + attribute_places (kids_of e.1))) p ∙ ap Some z
