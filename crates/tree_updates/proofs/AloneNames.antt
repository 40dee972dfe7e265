-- Whether an attribute may get a name, by the symbols of its element's attributes.
use Rattle.std.proofs.Common.{◌≡◌, ◌≢◌, ℕ, ◌<◌, List, Bool, false, ap, sym, ◌∙◌, subst, arith, append-nil, Some}
use Rattle.std.specs.Prelude.{slice_get}
use Rattle.std.proofs.lemmas.Option.{some_pair_parts}
use Rattle.plain_tree.specs.declared.kind.Kind.{Kind}
use Rattle.plain_tree.specs.declared.kind.Kind.TheVariants.{Attribute}
use Rattle.plain_tree.specs.declared.edit.Edit.TheVariants.{Rename}
use Rattle.plain_tree.specs.Additions.{has_attribute}
use Rattle.plain_tree.specs.Allowed.{IsAllowed}
use Rattle.plain_tree.specs.NodePairs.{Pair}
use Rattle.plain_tree.specs.Numbers.{nodes, kind_of}
use Rattle.plain_tree.specs.Siblings.{first_kids, from_node}
use Rattle.plain_tree.specs.Tree.{Tree, node, Trees, none, more, node_count}
use Rattle.preorder_address.specs.Spots.{IsSpot}
use Rattle.preorder_address.specs.TreeNumbers.{kind_at, parent_at}
use Rattle.preorder_address.specs.declared.spot.Spot.{Spot}
use Rattle.preorder_address.proofs.TreeSpots.{spot-node}
use Rattle.rule_arena.specs.declared.label.Label.TheVariants.{Symbol}
use Rattle.slt_grammar.specs.Grammars.{value}
use Rattle.slt_grammar.specs.Keyed.{rules_of}
use Rattle.tree_updates.specs.Stores.{IsStoreFor}
use Rattle.tree_updates.specs.declared.store.Store.{Store}
use Rattle.tree_updates.specs.ElementAttributes.{IsAttributeAt}
use Rattle.tree_updates.proofs.AttributeElements.{attribute-there, element, element-none}
use Rattle.tree_updates.proofs.AttributeNames.{free-there, own-there, there-free, unnamed-kids}
use Rattle.tree_updates.proofs.NameableNodes.{allowed-name, at-told, here-is, name-allowed, told-low}
use Rattle.tree_updates.proofs.NodePlaces.{IsPlaced}
use Rattle.tree_updates.proofs.Numbers.{node-at}
use Rattle.tree_updates.proofs.ParentKids.{IsAmongKids, parent-kids}

same-first : (s r : Tree) (us vs : Trees) → more s us ≡ more r vs → s ≡ r
same-first s r us vs e = cc

same-some : (s r : Tree) → Some s ≡ Some r → s ≡ r
same-some s r e = cc

same-symbol : (f g : ℕ) → Symbol f ≡ Symbol g → f ≡ g
same-symbol f g e = cc

same-told : (m n : ℕ) → Some (Some m) ≡ Some (Some n) → m ≡ n
same-told m n e = cc

-- an attribute, as it stands, with the pair of its symbol
record IsOwn (names : List Pair) (symbol : ℕ) (here : Tree) : Type 0 where
  pub name : List ℕ
  pub value : List ℕ
  pub kids : Trees
  pub is : here ≡ node Attribute name value kids
  pub pair : slice_get names symbol ≡ Some (Attribute, name)

module _ (s : Store) (t : Tree) (i : IsStoreFor s t) (n : ℕ) (told : Some Attribute ≡ kind_at t n) (spot : Spot) (is : IsSpot s.names s.grammar.rules n spot) where
  abbrev at : IsPlaced t n
  at = at-told t n Attribute told

  low : n < node_count t
  low = told-low t n Attribute told

  own : IsOwn s.names spot.symbol at.place.here
  own =
      let q = spot-node s.names s.grammar.rules t i.stand.code n spot.levels.items spot.symbol spot.before is in
      let f : spot.symbol ≡ q.symbol = same-symbol spot.symbol q.symbol q.is_symbol in
      let a = node-at n (more t none) (omega (arith, low)) in
      let first : a.here ≡ at.place.here = same-first a.here at.place.here a.behind at.place.behind (sym a.from_is ∙ at.from) in
      let there : a.here ≡ node q.place.kind q.place.name q.place.value q.place.kids =
      same-some a.here (node q.place.kind q.place.name q.place.value q.place.kids) (sym a.node_is ∙ ap (λ (xs : List Tree). slice_get xs n) (append-nil (nodes t)) ∙ q.node_is) in
      let kind : q.place.kind ≡ Attribute = ap kind_of (sym there ∙ first) ∙ here-is t n Attribute told in
      record {
        name = q.place.name;
        value = q.place.value;
        kids = q.place.kids;
        is = sym first ∙ there ∙ ap (λ (k : Kind). node k q.place.name q.place.value q.place.kids) kind;
        pair = ap (slice_get s.names) f ∙ q.place.pair ∙ ap (λ (k : Kind). Some (k, q.place.name)) kind;
      }

  kid : IsAmongKids t n at.place.before (node Attribute own.name own.value own.kids) at.place.behind
  kid = subst (λ (r : Tree). IsAmongKids t n at.place.before r at.place.behind) own.is (parent-kids t i.stand.document n at.place low at.there (here-is t n Attribute told))

  same-parent : (m : ℕ) → Some (Some m) ≡ parent_at (more t none) n → m ≡ kid.parent
  same-parent m e = same-told m kid.parent (e ∙ kid.told)

  pub parent-low : (m : ℕ) → Some (Some m) ≡ parent_at (more t none) n → m < node_count t
  parent-low m e = subst (λ (j : ℕ). j < node_count t) (sym (same-parent m e)) kid.low

  pub parent-other : (m : ℕ) → Some (Some m) ≡ parent_at (more t none) n → kind_at t m ≡ Some Attribute → ⊥
  parent-other m e is =
      let d = i.stand.document in
      let h = attribute-there t d m is in
      element-none t d n told h.0 (subst (λ (j : ℕ). IsAttributeAt t j h.0) (same-told m (element t d n told).parent (e ∙ (element t d n told).told)) h.1)

  module _ (x : List ℕ) where
    none-allowed : has_attribute x (first_kids (from_node kid.parent (more t none))) ≡ false → IsAllowed t (Rename n x)
    none-allowed e = name-allowed t n Attribute told x (free-there t i.stand.document n at.place.before own.name own.value own.kids at.place.behind kid x e)

    -- the name is in no table
    pub unnamed-allowed : ((j : ℕ) → slice_get s.names j ≢ Some (Attribute, x)) → IsAllowed t (Rename n x)
    unnamed-allowed h =
        let l = kid.low in
        none-allowed (unnamed-kids s.names x h kid.parent (more t none) (omega (arith, l)) (value (rules_of s.grammar.rules)) i.stand.code)

    module _ (symbol : ℕ) (pair : slice_get s.names symbol ≡ Some (Attribute, x)) where
      -- it has the name already
      pub own-allowed : spot.symbol ≡ symbol → IsAllowed t (Rename n x)
      own-allowed e =
          let m = some_pair_parts Attribute Attribute own.name x (sym own.pair ∙ ap (slice_get s.names) e ∙ pair) in
          name-allowed t n Attribute told x (own-there t i.stand.document n at.place.before own.name own.value own.kids at.place.behind kid x m.1)

      -- it has another
      module _ (apart : spot.symbol ≡ symbol → ⊥) (m : ℕ) (parent : Some (Some m) ≡ parent_at (more t none) n) (b : Bool) (tells : b ≡ has_attribute x (first_kids (from_node m (more t none)))) where
        tells-kids : b ≡ has_attribute x (first_kids (from_node kid.parent (more t none)))
        tells-kids = tells ∙ ap (λ (j : ℕ). has_attribute x (first_kids (from_node j (more t none)))) (same-parent m parent)

        pub free-allowed : b ≡ false → IsAllowed t (Rename n x)
        free-allowed e = none-allowed (sym tells-kids ∙ e)

        own-apart : own.name ≡ x → ⊥
        own-apart e = apart (i.stand.distinct Attribute x spot.symbol symbol (own.pair ∙ ap (λ (y : List ℕ). Some (Attribute, y)) e) pair)

        pub allowed-free : IsAllowed t (Rename n x) → b ≡ false
        allowed-free h =
            let r = allowed-name t n Attribute told x h in
            tells-kids ∙ there-free t i.stand.document n at.place.before own.name own.value own.kids at.place.behind kid x own-apart r.0 r.1
