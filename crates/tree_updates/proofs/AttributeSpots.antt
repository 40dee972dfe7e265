-- The spot of an attribute.
use Rattle.std.proofs.Common.{◌≡◌, ℕ, ◌<◌, List, ap, sym, ◌∙◌, subst, arith, Some}
use Rattle.std.specs.Prelude.{slice_get}
use Rattle.std.proofs.lemmas.Option.{slice_get_within, some_pair_parts}
use Rattle.plain_tree.specs.declared.kind.Kind.TheVariants.{Attribute}
use Rattle.plain_tree.specs.Numbers.{kind_of, nodes}
use Rattle.plain_tree.specs.Tree.{Tree, node, none, node_count}
use Rattle.plain_tree.proofs.NodeCounts.{length-nodes}
use Rattle.preorder_address.specs.Spots.{IsSpot}
use Rattle.preorder_address.specs.declared.spot.Spot.{Spot}
use Rattle.preorder_address.proofs.TreeSpots.{spot-node}
use Rattle.rule_arena.specs.declared.label.Label.TheVariants.{Symbol}
use Rattle.tree_updates.specs.ElementAttributes.{IsAttributeAt}
use Rattle.tree_updates.specs.Stores.{IsStoreFor}
use Rattle.tree_updates.specs.declared.store.Store.{Store}
use Rattle.tree_updates.proofs.AttributeNumbers.{attribute-bare}

pub attribute-within : (t : Tree) (n : ℕ) (y : List ℕ) → IsAttributeAt t n y → n < node_count t
attribute-within t n y h = omega (arith, slice_get_within (nodes t) n (node Attribute y h.0 none) h.1, length-nodes t)

same-symbol : (f g : ℕ) → Symbol f ≡ Symbol g → f ≡ g
same-symbol f g e = cc

abbrev name_of : Tree → List ℕ
name_of (node k m v ks) = m

same-tree : (s r : Tree) → Some s ≡ Some r → s ≡ r
same-tree s r e = cc

module _ (s : Store) (t : Tree) (i : IsStoreFor s t) (n : ℕ) (spot : Spot) (is : IsSpot s.names s.grammar.rules n spot) (y : List ℕ) where
  -- its symbol is an attribute's of the name
  pub spot-attribute : slice_get s.names spot.symbol ≡ Some (Attribute, y) → IsAttributeAt t n y
  spot-attribute e =
      let q = spot-node s.names s.grammar.rules t i.stand.code n spot.levels.items spot.symbol spot.before is in
      let own : slice_get s.names spot.symbol ≡ Some (q.place.kind, q.place.name) = ap (slice_get s.names) (same-symbol spot.symbol q.symbol q.is_symbol) ∙ q.place.pair in
      let p = some_pair_parts q.place.kind Attribute q.place.name y (sym own ∙ e) in
      subst (IsAttributeAt t n) p.1 (attribute-bare t i.stand.document n q.place.kind q.place.name q.place.value q.place.kids q.node_is p.0)

  pub attribute-symbol : IsAttributeAt t n y → slice_get s.names spot.symbol ≡ Some (Attribute, y)
  attribute-symbol h =
      let q = spot-node s.names s.grammar.rules t i.stand.code n spot.levels.items spot.symbol spot.before is in
      let own : slice_get s.names spot.symbol ≡ Some (q.place.kind, q.place.name) = ap (slice_get s.names) (same-symbol spot.symbol q.symbol q.is_symbol) ∙ q.place.pair in
      let same : node q.place.kind q.place.name q.place.value q.place.kids ≡ node Attribute y h.0 none =
      same-tree (node q.place.kind q.place.name q.place.value q.place.kids) (node Attribute y h.0 none) (sym q.node_is ∙ h.1) in
      own ∙ ap (λ (r : Tree). Some (kind_of r, name_of r)) same
