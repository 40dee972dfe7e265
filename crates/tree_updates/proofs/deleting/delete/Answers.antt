use Rattle.std.proofs.Common.{◌≡◌, ℕ, Option, None, Some, subst}
use Rattle.std.specs.Prelude.{IfNone, IfSome}
use Rattle.plain_tree.specs.declared.edit.Edit.TheVariants.{Delete}
use Rattle.plain_tree.specs.Edits.{edited, placed}
use Rattle.plain_tree.specs.Tree.{Tree}
use Rattle.tree_updates.specs.Extents.{AreBeside, IsSpanOf}
use Rattle.tree_updates.specs.Stores.{IsStoreFor}
use Rattle.tree_updates.specs.declared.meeting_text.Neighbours.{Neighbours}
use Rattle.tree_updates.specs.declared.node_extent.Span.{Span}
use Rattle.tree_updates.specs.declared.store.Store.{Store}
use Rattle.tree_updates.proofs.LeavingDocuments.{coded, unswept}
use Rattle.tree_updates.proofs.SpareNodes.{number-some}
use Rattle.tree_updates.proofs.deleting.delete.Goals as goal

-- what was told of the texts beside the node, if there are any
module _ (s : Store) (n : ℕ) (span : Span) (o : Option Neighbours) where
  beside-there : (x : Neighbours) → o ≡ Some x → IfSome o (λ b. (t : Tree) → IsStoreFor s t → IsSpanOf s t n span → AreBeside s t n b) → (t : Tree) → IsStoreFor s t → IsSpanOf s t n span → AreBeside s t n x
  beside-there x e h = subst (λ (p : Option Neighbours). IfSome p (λ b. (t : Tree) → IsStoreFor s t → IsSpanOf s t n span → AreBeside s t n b)) e h

  none-beside : o ≡ None → IfNone o ((t : Tree) → IsStoreFor s t → IsSpanOf s t n span → edited t (Delete n) ≡ placed t (Delete n)) → (t : Tree) → IsStoreFor s t → IsSpanOf s t n span → edited t (Delete n) ≡ placed t (Delete n)
  none-beside e h = subst (λ (p : Option Neighbours). IfNone p ((t : Tree) → IsStoreFor s t → IsSpanOf s t n span → edited t (Delete n) ≡ placed t (Delete n))) e h

pub span_of-requires-clause-store : goal.span_of-requires-clause-store
span_of-requires-clause-store g c = let r = c.requires.store in (r.0, unswept c.args.store.now r.0 r.1)

pub meeting_texts-requires-clause-store : goal.meeting_texts-requires-clause-store
meeting_texts-requires-clause-store g c =
    let a = c.args.store.now in
    let r = c.requires.store in
    (r.0, r.1, c.in_ok-span.ensures.span r.0 (coded a r.0 (unswept a r.0 r.1)))

pub meeting_texts-requires-clause-behind : goal.meeting_texts-requires-clause-behind
meeting_texts-requires-clause-behind g c = let r = c.requires.store in number-some r.0 c.args.number (c.in_ok-spot.ensures.answer r.0 r.1)

pub delete_apart-requires-clause-store : goal.delete_apart-requires-clause-store
delete_apart-requires-clause-store g c =
    let a = c.args.store.now in
    let r = c.requires.store in
    (r.0, r.1, c.in_ok-spot.ensures.answer r.0 r.1, (c.in_ok-span.ensures.span r.0 (coded a r.0 (unswept a r.0 r.1))).extent)

pub delete_between-requires-clause-store : goal.delete_between-requires-clause-store
delete_between-requires-clause-store g c =
    let a = c.args.store.now in
    let r = c.requires.store in
    let x = c.in_ok-span.ensures.span r.0 (coded a r.0 (unswept a r.0 r.1)) in
    (r.0, r.1, c.in_ok-spot.ensures.answer r.0 r.1, x.extent, beside-there c.args.store.now c.args.number c.in_ok-span.span c.in_ok-found.found c.in-Some.beside c.in-Some.is c.in_ok-found.ensures.meets r.0 r.1 x)

pub returns-in-None-clause-applies : goal.returns-in-None-clause-applies
returns-in-None-clause-applies g c = λ t i.
    let a = c.args.store.now in
    let x = c.in_ok-span.ensures.span t (coded a t (unswept a t i)) in
    c.delete_apart.ensures.applies t i (c.in_ok-spot.ensures.answer t i) x.extent (none-beside c.args.store.now c.args.number c.in_ok-span.span c.in_ok-found.found c.in-None.is c.in_ok-found.ensures.apart t i x)

pub returns-clause-applies : goal.returns-clause-applies
returns-clause-applies g c = λ t i.
    let a = c.args.store.now in
    let x = c.in_ok-span.ensures.span t (coded a t (unswept a t i)) in
    c.delete_between.ensures.applies t i (c.in_ok-spot.ensures.answer t i) x.extent (beside-there c.args.store.now c.args.number c.in_ok-span.span c.in_ok-found.found c.in-Some.beside c.in-Some.is c.in_ok-found.ensures.meets t i x)
