use Rattle.std.proofs.Common.{◌≡◌, List, Option, sym, subst, arith}
use Rattle.std.specs.Prelude.{IfNone, IfSome}
use Rattle.std.proofs.lemmas.Result.{err_from_is_err_and}
use Rattle.plain_tree.specs.declared.edit.Edit.TheVariants.{Append}
use Rattle.plain_tree.specs.EditLaws.{IsEditOf}
use Rattle.plain_tree.specs.Edits.{edited, placed}
use Rattle.plain_tree.specs.Tree.{Tree}
use Rattle.tree_updates.specs.FragmentGrowths.{MeetsAtEnd}
use Rattle.tree_updates.specs.Stores.{IsStoreFor}
use Rattle.tree_updates.specs.declared.appending_joined.LastText.{LastText}
use Rattle.tree_updates.specs.declared.store.EditError.TheVariants.{Memory}
use Rattle.tree_updates.proofs.LeavingDocuments.{unswept, coded}
use Rattle.tree_updates.proofs.StoreLemmas.{refused-there}
use Rattle.slt_grammar.specs.Keyed.{KeyedRule}
use Rattle.slt_grammar.specs.declared.level.Level.{Level}
use Rattle.start_fronts.specs.Moved.{MovesBefore}
use Rattle.segment_counts.specs.Weights.{all_weight}
use Rattle.preorder_address.specs.Marks.{AreMarks}
use Rattle.tree_updates.specs.Fronts.{first_keys}
use Rattle.tree_updates.proofs.MovedMarks.{edited-counts}
use Rattle.tree_updates.proofs.AppendedStores.{end-low, host-there}
use Rattle.tree_updates.proofs.IsolatedPlaces.{places-coded}
use Rattle.tree_updates.proofs.appending.append.Goals as goal

pub extent_of-requires-clause-store : goal.extent_of-requires-clause-store
extent_of-requires-clause-store g c = let r = c.requires.store in (r.0, unswept c.args.store.now r.0 r.1)

pub returns-in_err-extent-clause-applies : goal.returns-in_err-extent-clause-applies
returns-in_err-extent-clause-applies g c =
    let p = err_from_is_err_and c.from_residual-in_err-extent.result c.from_residual-in_err-extent.ensures.1 in
    rw (p.1, p.2) (λ t i. refused-there t (Append c.args.number c.args.fragment.now) Memory c.args.store.now tt i)

pub end_site-site-requires-clause-store : goal.end_site-site-requires-clause-store
end_site-site-requires-clause-store g c = let r = c.requires.store in (r.0, unswept c.args.store.now r.0 r.1)

pub meeting_kid-requires-clause-store : goal.meeting_kid-requires-clause-store
meeting_kid-requires-clause-store g c =
    let r = c.requires.store in
    let edit : IsEditOf r.0 (Append c.args.number c.args.fragment.now) = record { document_is = r.1.stand.document; allowed = c.in_ok-spot.ensures.answer r.0 r.1; parts = c.requires.fragment } in
    (r.0, r.1, edit)

pub returns-in_err-meeting-clause-applies : goal.returns-in_err-meeting-clause-applies
returns-in_err-meeting-clause-applies g c =
    let p = err_from_is_err_and c.from_residual-in_err-meeting.result c.from_residual-in_err-meeting.ensures.1 in
    rw (p.1, p.2) (λ t i. refused-there t (Append c.args.number c.args.fragment.now) Memory c.args.store.now tt i)

pub append_apart-requires-clause-store : goal.append_apart-requires-clause-store
append_apart-requires-clause-store g c =
    let r = c.requires.store in
    let edit : IsEditOf r.0 (Append c.args.number c.args.fragment.now) = record { document_is = r.1.stand.document; allowed = c.in_ok-spot.ensures.answer r.0 r.1; parts = c.requires.fragment } in
    (r.0, r.1, edit)

pub append_joined-requires-clause-store : goal.append_joined-requires-clause-store
append_joined-requires-clause-store g c =
    let s = c.args.store.now in
    let n = c.args.number in
    let F = c.args.fragment.now in
    let r = c.requires.store in
    let edit : IsEditOf r.0 (Append n F) = record { document_is = r.1.stand.document; allowed = c.in_ok-spot.ensures.answer r.0 r.1; parts = c.requires.fragment } in
    let meets = subst (λ (o : Option LastText). IfSome o (λ last. (t : Tree) → IsStoreFor s t → IsEditOf t (Append n F) → MeetsAtEnd t n last.number F)) c.in-Some.is c.in_ok-meeting.ensures.meets in
    (r.0, r.1, edit, meets r.0 r.1 edit)

pub returns-in-None-clause-applies : goal.returns-in-None-clause-applies
returns-in-None-clause-applies g c = λ t i.
    let s = c.args.store.now in
    let n = c.args.number in
    let F = c.args.fragment.now in
    let edit : IsEditOf t (Append n F) = record { document_is = i.stand.document; allowed = c.in_ok-spot.ensures.answer t i; parts = c.requires.fragment } in
    let apart = subst (λ (o : Option LastText). IfNone o ((t : Tree) → IsStoreFor s t → IsEditOf t (Append n F) → edited t (Append n F) ≡ placed t (Append n F))) c.in-None.is c.in_ok-meeting.ensures.apart in
    c.in_ok-append_apart-in-None.ensures.applies t i edit (apart t i edit)

pub returns-clause-applies : goal.returns-clause-applies
returns-clause-applies g c = λ t i.
    let s = c.args.store.now in
    let n = c.args.number in
    let F = c.args.fragment.now in
    let edit : IsEditOf t (Append n F) = record { document_is = i.stand.document; allowed = c.in_ok-spot.ensures.answer t i; parts = c.requires.fragment } in
    let meets = subst (λ (o : Option LastText). IfSome o (λ last. (t : Tree) → IsStoreFor s t → IsEditOf t (Append n F) → MeetsAtEnd t n last.number F)) c.in-Some.is c.in_ok-meeting.ensures.meets in
    c.in_ok-append_joined-in-Some.ensures.applies t i edit (meets t i edit)

pub find_place-requires-clause-counts : goal.find_place-requires-clause-counts
find_place-requires-clause-counts g c = c.requires.store.1.counts

pub find_place-requires-clause-low : goal.find_place-requires-clause-low
find_place-requires-clause-low g c =
    let s = c.args.store.now in
    let r = c.requires.store in
    let edit : IsEditOf r.0 (Append c.args.number c.args.fragment.now) = record { document_is = r.1.stand.document; allowed = c.in_ok-spot.ensures.answer r.0 r.1; parts = c.requires.fragment } in
    let site = c.end_site-site.ensures r.0 (coded s r.0 (unswept s r.0 r.1)) in
    omega (arith, end-low r.0 c.args.number (host-there r.0 c.args.number c.args.fragment.now edit) c.end_site-site.result site, places-coded s.names s.grammar.rules r.0 r.1.stand.code)

pub returns-in_err-end-clause-applies : goal.returns-in_err-end-clause-applies
returns-in_err-end-clause-applies g c =
    let p = err_from_is_err_and c.from_residual-in_err-end.result c.from_residual-in_err-end.ensures.1 in
    rw (p.1, p.2) (λ t i. refused-there t (Append c.args.number c.args.fragment.now) Memory c.args.store.now tt i)

pub returns-in_err-append_apart-in-None-clause-applies : goal.returns-in_err-append_apart-in-None-clause-applies
returns-in_err-append_apart-in-None-clause-applies g c =
    let p = err_from_is_err_and c.from_residual-in_err-append_apart-in-None.result c.from_residual-in_err-append_apart-in-None.ensures.1 in
    rw (p.1, p.2) (λ t i.
    let s = c.args.store.now in
    let n = c.args.number in
    let F = c.args.fragment.now in
    let edit : IsEditOf t (Append n F) = record { document_is = i.stand.document; allowed = c.in_ok-spot.ensures.answer t i; parts = c.requires.fragment } in
    let apart = subst (λ (o : Option LastText). IfNone o ((t : Tree) → IsStoreFor s t → IsEditOf t (Append n F) → edited t (Append n F) ≡ placed t (Append n F))) c.in-None.is c.in_ok-meeting.ensures.apart in
    c.in_err-append_apart-in-None.ensures.applies t i edit (apart t i edit))

pub returns-in_err-append_apart-in-None-clause-marks : goal.returns-in_err-append_apart-in-None-clause-marks
returns-in_err-append_apart-in-None-clause-marks g c =
    subst (λ (R : List KeyedRule). AreMarks c.args.store.now.names R c.find_place.new.marks) (sym c.in_err-append_apart-in-None.ensures.rules) c.find_place.ensures.marks

pub returns-in-None-clause-marks : goal.returns-in-None-clause-marks
returns-in-None-clause-marks g c =
    let n = c.args.number in
    let F = c.args.fragment.now in
    let edit : IsEditOf c.requires.store.0 (Append n F) = record { document_is = c.requires.store.1.stand.document; allowed = c.in_ok-spot.ensures.answer c.requires.store.0 c.requires.store.1; parts = c.requires.fragment } in
    let apart = subst (λ (o : Option LastText). IfNone o ((t : Tree) → IsStoreFor c.args.store.now t → IsEditOf t (Append n F) → edited t (Append n F) ≡ placed t (Append n F))) c.in-None.is c.in_ok-meeting.ensures.apart in
    let s = c.args.store.now in
    let new = c.append_apart.new.store in
    let r = c.requires.store in
    let place = c.end_site-site.result.place in
    let end = c.in_ok-end.end in
    let e = Append n F in
    let lawful = c.limit-limit.ensures.keyed.grammar in
    let E = c.in_ok-append_apart-in-None.ensures.applies r.0 r.1 edit (apart r.0 r.1 edit) in
    let moves = subst (λ (ls : List Level). MovesBefore all_weight (first_keys ls) place s.grammar.rules new.grammar.rules) (sym c.levels.ensures) c.in_ok-append_apart-in-None.ensures.moves in
    c.move_marks.ensures s.names s.grammar.rules (λ few. (c.find_place.ensures.marks, moves, c.whole_weights-had.ensures s.names s.grammar.rules r.1.counts lawful, edited-counts r.0 e s new E (omega (arith, few, c.len-named.ensures.value))))

pub returns-in_err-append_joined-in-Some-clause-applies : goal.returns-in_err-append_joined-in-Some-clause-applies
returns-in_err-append_joined-in-Some-clause-applies g c =
    let p = err_from_is_err_and c.from_residual-in_err-append_joined-in-Some.result c.from_residual-in_err-append_joined-in-Some.ensures.1 in
    rw (p.1, p.2) (λ t i.
    let s = c.args.store.now in
    let n = c.args.number in
    let F = c.args.fragment.now in
    let edit : IsEditOf t (Append n F) = record { document_is = i.stand.document; allowed = c.in_ok-spot.ensures.answer t i; parts = c.requires.fragment } in
    let meets = subst (λ (o : Option LastText). IfSome o (λ last. (t : Tree) → IsStoreFor s t → IsEditOf t (Append n F) → MeetsAtEnd t n last.number F)) c.in-Some.is c.in_ok-meeting.ensures.meets in
    c.in_err-append_joined-in-Some.ensures.applies t i edit (meets t i edit))

pub returns-in_err-append_joined-in-Some-clause-marks : goal.returns-in_err-append_joined-in-Some-clause-marks
returns-in_err-append_joined-in-Some-clause-marks g c =
    subst (λ (R : List KeyedRule). AreMarks c.args.store.now.names R c.find_place.new.marks) (sym c.in_err-append_joined-in-Some.ensures.rules) c.find_place.ensures.marks

pub returns-clause-marks : goal.returns-clause-marks
returns-clause-marks g c =
    let n = c.args.number in
    let F = c.args.fragment.now in
    let edit : IsEditOf c.requires.store.0 (Append n F) = record { document_is = c.requires.store.1.stand.document; allowed = c.in_ok-spot.ensures.answer c.requires.store.0 c.requires.store.1; parts = c.requires.fragment } in
    let meets = subst (λ (o : Option LastText). IfSome o (λ last. (t : Tree) → IsStoreFor c.args.store.now t → IsEditOf t (Append n F) → MeetsAtEnd t n last.number F)) c.in-Some.is c.in_ok-meeting.ensures.meets in
    let s = c.args.store.now in
    let new = c.append_joined.new.store in
    let r = c.requires.store in
    let place = c.end_site-site.result.place in
    let end = c.in_ok-end.end in
    let e = Append n F in
    let lawful = c.limit-limit.ensures.keyed.grammar in
    let E = c.in_ok-append_joined-in-Some.ensures.applies r.0 r.1 edit (meets r.0 r.1 edit) in
    let moves = subst (λ (ls : List Level). MovesBefore all_weight (first_keys ls) place s.grammar.rules new.grammar.rules) (sym c.levels-in-Some.ensures) c.in_ok-append_joined-in-Some.ensures.moves in
    c.move_marks-in-Some.ensures s.names s.grammar.rules (λ few. (c.find_place.ensures.marks, moves, c.whole_weights-had.ensures s.names s.grammar.rules r.1.counts lawful, edited-counts r.0 e s new E (omega (arith, few, c.len-named.ensures.value))))
