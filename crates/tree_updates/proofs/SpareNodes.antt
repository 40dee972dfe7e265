-- Nodes that may go, and nodes before which trees may come, by the kinds above them.
use Rattle.std.proofs.Common.{◌≡◌, ◌≢◌, ◌↔◌, ℕ, zero, suc, ◌<◌, List, IsTrue, Bool, ap, sym, ◌∙◌, subst, arith, Option, Some, None}
use Rattle.std.specs.Prelude.{MatchOption, option_map}
use Rattle.plain_tree.specs.declared.kind.Kind.{Kind}
use Rattle.plain_tree.specs.declared.kind.Kind.TheVariants.{Attribute, Document, Element}
use Rattle.plain_tree.specs.declared.edit.Edit.TheVariants.{Delete, Insert}
use Rattle.plain_tree.specs.Allowed.{IsAllowed, MayStandUnder}
use Rattle.plain_tree.specs.Lawful.{IsDocument}
use Rattle.plain_tree.specs.Numbers.{kind_of}
use Rattle.plain_tree.specs.Places.{Place}
use Rattle.plain_tree.specs.Tree.{Tree, node, trees, node_count}
use Rattle.preorder_address.specs.TreeNumbers.{kind_at}
use Rattle.tree_updates.specs.CallAnswers.{above_at}
use Rattle.tree_updates.proofs.NodePlaces.{IsPlaced, allowed-there, kind-there as its-kind-there, placed, there-allowed}
use Rattle.tree_updates.proofs.Numbers.{at, in-tree}

one-above : (o p : Option Kind) → Some o ≡ Some p → o ≡ p
one-above o p e = cc

module _ (t : Tree) (n : ℕ) (low : n < node_count t) (kind : Kind) (told : kind_at t n ≡ Some kind) (j : Kind) (under : above_at t n ≡ Some (Some j)) where
  P : IsPlaced t n
  P = placed t n low

  its-kind : kind_of P.place.here ≡ kind
  its-kind = its-kind-there t n P kind (sym told)

  above : P.place.above ≡ Some j
  above = one-above P.place.above (Some j) (sym (ap (option_map (λ (p : Place). p.above)) P.there) ∙ under)

  -- one that is no element under the document may go
  pub goes : (j ≡ Document → kind ≢ Element) → IsAllowed t (Delete n)
  goes h = allowed-there t (Delete n) P (subst (λ o. MatchOption o ⊥ (λ k. k ≡ Document → kind_of P.place.here ≢ Element)) (sym above) (λ f g. h f (sym its-kind ∙ g)))

  pub stays : j ≡ Document → kind ≡ Element → IsAllowed t (Delete n) → ⊥
  stays f g h = subst (λ o. MatchOption o ⊥ (λ k. k ≡ Document → kind_of P.place.here ≢ Element)) above (there-allowed t (Delete n) P h) f (its-kind ∙ g)

  -- before one that is no attribute trees may come that may stand where it stands
  pub beside : (F : List Tree) → kind ≢ Attribute → (may : Bool) → (IsTrue may ↔ MayStandUnder j (trees F)) → (IsTrue may ↔ IsAllowed t (Insert n F))
  beside F other may w = (
    λ h. allowed-there t (Insert n F) P ((λ e. other (sym its-kind ∙ e)), subst (λ o. MatchOption o ⊥ (λ k. MayStandUnder k (trees F))) (sym above) (w.0 h)),
    λ h. w.1 (subst (λ o. MatchOption o ⊥ (λ k. MayStandUnder k (trees F))) above (there-allowed t (Insert n F) P h).1),
  )

-- nothing comes before an attribute
pub attribute-alone : (t : Tree) (n : ℕ) → n < node_count t → kind_at t n ≡ Some Attribute → (F : List Tree) → IsAllowed t (Insert n F) → ⊥
attribute-alone t n low told F h = let P = placed t n low in (there-allowed t (Insert n F) P h).0 (its-kind-there t n P Attribute (sym told))

-- the document has nothing beside it
pub insert-some : (t : Tree) (n : ℕ) (F : List Tree) → IsAllowed t (Insert n F) → 0 < n
insert-some (node k m v ks) zero F h = absurd h.1
insert-some (node k m v ks) (suc n) F h = omega arith

-- the document stays
pub number-some : (t : Tree) (n : ℕ) → IsAllowed t (Delete n) → 0 < n
number-some (node k m v ks) zero h = absurd h
number-some (node k m v ks) (suc n) h = omega arith

-- each node has a kind
pub kind-there : (t : Tree) (d : IsDocument t) (n : ℕ) (low : n < node_count t) (o : Option Kind) → o ≡ kind_at t n → o ≡ None → ⊥
kind-there t d n low o e f =
    let A = at t d.lawful n low in
    let g : None ≡ Some (kind_of A.here) = sym f ∙ e ∙ ap (option_map kind_of) (in-tree t d.lawful n low) in
    absurd cc
