-- Which names a node may get.
use Rattle.std.proofs.Common.{◌≡◌, ℕ, ◌<◌, List, refl, sym, subst, arith, Option, Some, None}
use Rattle.std.specs.Prelude.{slice_get, option_map}
use Rattle.std.proofs.lemmas.Option.{slice_get_within}
use Rattle.plain_tree.specs.declared.kind.Kind.{Kind}
use Rattle.plain_tree.specs.declared.kind.Kind.TheVariants.{Document, Element, Attribute, Text, Comment, Instruction}
use Rattle.plain_tree.specs.declared.edit.Edit.TheVariants.{Rename}
use Rattle.plain_tree.specs.Allowed.{IsAllowed, MayBeNamed}
use Rattle.plain_tree.specs.Numbers.{nodes, kind_of}
use Rattle.plain_tree.specs.Tree.{Tree, Trees, node_count}
use Rattle.plain_tree.proofs.NodeCounts.{length-nodes}
use Rattle.preorder_address.specs.TreeNumbers.{kind_at}
use Rattle.tree_updates.proofs.NodePlaces.{IsPlaced, placed, kind-there, allowed-there, there-allowed}

-- the number of which a kind is told is a node's
pub told-low : (t : Tree) (n : ℕ) (kind : Kind) → Some kind ≡ kind_at t n → n < node_count t
told-low t n kind e = by_node (slice_get (nodes t) n) refl e
  where
    by_node : (o : Option Tree) → slice_get (nodes t) n ≡ o → Some kind ≡ option_map kind_of o → n < node_count t
    by_node None is e = cc
    by_node (Some s) is e = omega (arith, slice_get_within (nodes t) n s is, length-nodes t)

pub kind-some : (t : Tree) (n : ℕ) → n < node_count t → None ≡ kind_at t n → ⊥
kind-some t n low e = let k = (placed t n low).kind in absurd cc

module _ (t : Tree) (n : ℕ) (kind : Kind) (told : Some kind ≡ kind_at t n) where
  pub at-told : IsPlaced t n
  at-told = placed t n (told-low t n kind told)

  pub here-is : kind_of at-told.place.here ≡ kind
  here-is = kind-there t n at-told kind told

  pub name-allowed : (x : List ℕ) → MayBeNamed x kind at-told.place.before at-told.place.behind → IsAllowed t (Rename n x)
  name-allowed x h = allowed-there t (Rename n x) at-told (subst (λ (k : Kind). MayBeNamed x k at-told.place.before at-told.place.behind) (sym here-is) h)

  pub allowed-name : (x : List ℕ) → IsAllowed t (Rename n x) → MayBeNamed x kind at-told.place.before at-told.place.behind
  allowed-name x h = subst (λ (k : Kind). MayBeNamed x k at-told.place.before at-told.place.behind) here-is (there-allowed t (Rename n x) at-told h)

pub never-named : (x : List ℕ) (kind : Kind) (before behind : Trees) → (kind ≡ Element → ⊥) → (kind ≡ Attribute → ⊥) → (kind ≡ Instruction → ⊥) → MayBeNamed x kind before behind → ⊥
never-named x Document before behind e a i h = h
never-named x Element before behind e a i h = e refl
never-named x Attribute before behind e a i h = a refl
never-named x Text before behind e a i h = h
never-named x Comment before behind e a i h = h
never-named x Instruction before behind e a i h = i refl

pub element-named : (x : List ℕ) (kind : Kind) (before behind : Trees) → kind ≡ Element → MayBeNamed x kind before behind
element-named x kind before behind e = subst (λ (k : Kind). MayBeNamed x k before behind) (sym e) tt
