-- Copies of nodes that are no texts: whether they are allowed, and what they come to.
use Rattle.std.proofs.Common.{◌≡◌, ℕ, ◌+◌, ◌*◌, ◌<◌, ◌≤◌, ◌^◌, List, [], ◌∷◌, refl, ap, sym, ◌∙◌, subst, arith, inl, Option, Some, None}
use Rattle.std.specs.Prelude.{MatchOption, option_map}
use Rattle.plain_tree.specs.declared.kind.Kind.{Kind}
use Rattle.plain_tree.specs.declared.kind.Kind.TheVariants.{Document, Element, Attribute, Text, Comment, Instruction}
use Rattle.plain_tree.specs.declared.edit.Edit.TheVariants.{Copy, Delete}
use Rattle.plain_tree.specs.Allowed.{IsAllowed, IsAllowedAt}
use Rattle.plain_tree.specs.EditLaws.{IsEditOf}
use Rattle.plain_tree.specs.Edits.{edited, merged, placed}
use Rattle.plain_tree.specs.InTurn.{copy_edits, first_text, in_turn, plain_edits, text_before_node}
use Rattle.plain_tree.specs.Lawful.{IsDocument}
use Rattle.plain_tree.specs.Numbers.{kind_of}
use Rattle.plain_tree.specs.Places.{Place, place_at}
use Rattle.plain_tree.specs.Siblings.{from_node}
use Rattle.plain_tree.specs.Tree.{Tree, node, Trees, none, more, node_count, node_count_all}
use Rattle.plain_tree.proofs.Changing.{some-node}
use Rattle.plain_tree.proofs.EditCounts.{count-copied, edits-are-counted, merged-counts}
use Rattle.plain_tree.proofs.EditTurns.{plain-edits-in-turn}
use Rattle.slt_grammar.specs.Grammars.{size}
use Rattle.slt_grammar.specs.Keyed.{rules_of}
use Rattle.slt_grammar.specs.Ranks.{greatest_rank}
use Rattle.preorder_address.specs.TreeNumbers.{kind_at}
use Rattle.tree_updates.specs.Copies.{MayCopy}
use Rattle.tree_updates.specs.Extents.{IsExtentOf}
use Rattle.tree_updates.specs.Stores.{IsEdited, IsRefused, IsRefusedFor, IsStoreFor}
use Rattle.tree_updates.specs.declared.node_extent.Extent.{Extent}
use Rattle.tree_updates.specs.declared.store.EditError.{EditError}
use Rattle.tree_updates.specs.declared.store.EditError.TheVariants.{NoNode, NotAllowed, TooMany, Memory}
use Rattle.tree_updates.specs.declared.store.Store.{Store}
use Rattle.tree_updates.proofs.InsertedEdits.{doubled-more}
use Rattle.tree_updates.proofs.LeavingDocuments.{leaves}
use Rattle.tree_updates.proofs.NodePlaces.{IsPlaced, allowed-there, kind-there, placed as placed-at, there-allowed}
use Rattle.tree_updates.proofs.Numbers.{at, in-tree}
use Rattle.tree_updates.proofs.NodesThere.{allowed-low}

-- a node that may be copied may go
pub copied-goes : (t : Tree) (n : ℕ) → IsAllowed t (Copy n) → IsAllowed t (Delete n)
copied-goes t n h = of (place_at t n) h
  where
    of : (o : Option Place) → MatchOption o ⊥ (IsAllowedAt (Copy n)) → MatchOption o ⊥ (IsAllowedAt (Delete n))
    of None h = h
    of (Some p) h = h.1

-- and one that may go is copied if it is no attribute
module _ (t : Tree) (d : IsDocument t) (n : ℕ) (low : n < node_count t) (kind : Kind) (told : kind_at t n ≡ Some kind) where
  P : IsPlaced t n
  P = placed-at t n low

  its-kind : kind_of P.place.here ≡ kind
  its-kind = kind-there t n P kind (sym told)

  pub goes-copied : IsAllowed t (Delete n) → (kind ≡ Attribute → ⊥) → IsAllowed t (Copy n)
  goes-copied h other = allowed-there t (Copy n) P ((λ e. other (sym its-kind ∙ e)), there-allowed t (Delete n) P h)

  pub attribute-stays : kind ≡ Attribute → IsAllowed t (Copy n) → ⊥
  attribute-stays e h = (there-allowed t (Copy n) P h).0 (its-kind ∙ e)

-- where a node may not go, it is not copied
pub refused-copy : (t : Tree) (d : IsDocument t) (small : node_count t < 2 ^ 63) (n : ℕ) (error : EditError) → IsRefusedFor error t (Delete n) → IsRefusedFor error t (Copy n)
refused-copy t d small n (NoNode count) c = c
refused-copy t d small n (NotAllowed kind) c = (c.0, λ h. c.1 (copied-goes t n h))
refused-copy t d small n TooMany c =
    let h : IsEditOf t (Delete n) = record { document_is = d; allowed = c.0; parts = tt } in
    absurd (omega (arith, small, c.1, edits-are-counted t (Delete n) h, (merged-counts t (Delete n) d c.0 tt).0))
refused-copy t d small n Memory c = tt

-- what is no text meets none
no-text-first : (r : Tree) (us : Trees) → (kind_of r ≡ Text → ⊥) → first_text (more r us) ≡ None
no-text-first (node Text m v ks) us h = absurd (h refl)
no-text-first (node Document m v ks) us h = refl
no-text-first (node Element m v ks) us h = refl
no-text-first (node Attribute m v ks) us h = refl
no-text-first (node Comment m v ks) us h = refl
no-text-first (node Instruction m v ks) us h = refl

alone-edit : (n : ℕ) (x : Option (List ℕ)) → copy_edits n x None ≡ Copy n ∷ []
alone-edit n None = refl
alone-edit n (Some x) = refl

module _ (t : Tree) (d : IsDocument t) (n : ℕ) (allowed : IsAllowed t (Copy n)) (other : kind_at t n ≡ Some Text → ⊥) where
  low : n < node_count t
  low = allowed-low t (Copy n) allowed

  pub copy-apart : edited t (Copy n) ≡ placed t (Copy n)
  copy-apart =
      let A = at t d.lawful n low in
      let h : IsEditOf t (Copy n) = record { document_is = d; allowed = allowed; parts = tt } in
      let text : first_text (from_node n (more t none)) ≡ None = ap first_text A.from_is ∙ no-text-first A.here A.behind (λ e. other (ap (option_map kind_of) (in-tree t d.lawful n low) ∙ ap Some e)) in
      let x : Option (List ℕ) = text_before_node n (more t none) in
      let plain : plain_edits t (Copy n) ≡ Copy n ∷ [] = ap (copy_edits n x) text ∙ alone-edit n x in
      sym (plain-edits-in-turn t (Copy n) h).1 ∙ ap (in_turn t) plain

  -- so many nodes come
  pub copy-count : (e : Extent) → IsExtentOf t n e → node_count (placed t (Copy n)) ≡ node_count t + e.nodes
  copy-count e X = of X.here X.from_is X.nodes
    where
      of : (r : Tree) → from_node n (more t none) ≡ more r X.behind → e.nodes ≡ node_count r → node_count (placed t (Copy n)) ≡ node_count t + e.nodes
      of (node k m v ks) is c = omega (arith, c, ap node_count_all (leaves t d (Copy n) allowed tt).alone, count-copied n (more t none) (omega (arith, low)) k m v ks X.behind is)

  pub may-copy : (e : Extent) → IsExtentOf t n e → node_count t + e.nodes < 2 ^ 63 → MayCopy t n e
  may-copy e X small = record { leaves = leaves t d (Copy n) allowed tt; small = omega (arith, small, copy-count e X); extent = X }

  pub too-many : (e : Extent) → IsExtentOf t n e → 2 ^ 63 ≤ node_count t + e.nodes → IsRefusedFor TooMany t (Copy n)
  too-many e X many = (allowed, omega (arith, many, ap node_count copy-apart, copy-count e X))

-- the copy was made
pub copy-made : (old new : Store) (t : Tree) (n : ℕ) (d : IsDocument t) (allowed : IsAllowed t (Copy n)) (other : kind_at t n ≡ Some Text → ⊥) → IsStoreFor new (placed t (Copy n)) → new.names ≡ old.names
    → size (rules_of new.grammar.rules) ≤ 2 * size (rules_of old.grammar.rules) + 3 → greatest_rank (rules_of new.grammar.rules) ≤ greatest_rank (rules_of old.grammar.rules) → IsEdited t (Copy n) old new
copy-made old new t n d allowed other i names most ranks = record {
  allowed = allowed;
  store = subst (IsStoreFor new) (sym (copy-apart t d n allowed other)) i;
  names = names;
  ranks = ranks;
  size = doubled-more (size (rules_of old.grammar.rules)) (size (rules_of new.grammar.rules)) (merged t (Copy n)) 3 most;
}

-- or memory was wanting
pub copy-wanting : (old new : Store) (t : Tree) (n : ℕ) → IsStoreFor new t → new.names ≡ old.names → new.grammar.rules ≡ old.grammar.rules → new.texts.texts ≡ old.texts.texts → IsRefused t (Copy n) Memory old new
copy-wanting old new t n i names rules texts = record { cause = tt; store = i; rules = ap rules_of rules; texts = texts; names = inl names }

-- a node that is not alone has others below it
pub some-below : (t : Tree) (n : ℕ) (e : Extent) → IsExtentOf t n e → (e.nodes ≡ 1 → ⊥) → 1 < e.nodes
some-below t n e X other = omega (arith, other, X.nodes, some-node X.here)
