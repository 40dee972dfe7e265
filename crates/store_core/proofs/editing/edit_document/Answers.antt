use Rattle.std.proofs.lemmas.Result.{err_from_is_err_and}
use Rattle.plain_tree.specs.Edits.{edited}
use Rattle.store_core.specs.CommandOf.{act_of}
use Rattle.store_core.proofs.Edited.{asked-parts, counted-store, edit-done, edit-not-asked, edit-refused, held-store, store-held}
use Rattle.store_core.proofs.editing.edit_document.Goals as goal

pub returns-in_err-edit-clause-comes : goal.returns-in_err-edit-clause-comes
returns-in_err-edit-clause-comes g c = λ told count.
    let p = err_from_is_err_and c.from_residual.result c.from_residual.ensures.1 in
    let h = c.requires.held in
    let i = store-held c.args.loaded.now.store h c.requires.counted in
    rw (p.1, p.2)
    (edit-not-asked c.args.settings (act_of c.args.command) c.requires.edit c.args.loaded.now told count h.tree i c.in_err-edit.field-0.0 c.nodes_of-count.result (c.nodes_of-count.ensures h.tree i) c.in_err-edit.ensures.refused)

pub apply-requires-clause-parts : goal.apply-requires-clause-parts
apply-requires-clause-parts g c = asked-parts (act_of c.args.command) c.in_ok-edit.edit c.in_ok-edit.ensures.asked

pub returns-in_err-apply-clause-comes : goal.returns-in_err-apply-clause-comes
returns-in_err-apply-clause-comes g c = λ told count.
    let p = err_from_is_err_and c.from_residual-in_err-apply.result c.from_residual-in_err-apply.ensures.1 in
    let h = c.requires.held in
    let i = store-held c.args.loaded.now.store h c.requires.counted in
    rw (p.1, p.2)
    (edit-refused c.args.settings (act_of c.args.command) c.requires.edit c.args.loaded.now told count h.tree i c.in_ok-edit.edit c.in_ok-edit.ensures.asked c.nodes_of-count.result (c.nodes_of-count.ensures h.tree i) c.in_ok-edit.ensures.there
    c.apply.new.store c.in_err-apply.field-0.0 (c.in_err-apply.ensures.applies h.tree i))

pub settle_where_due-requires-clause-store : goal.settle_where_due-requires-clause-store
settle_where_due-requires-clause-store g c =
    let h = c.requires.held in
    (edited h.tree c.in_ok-edit.edit, (c.in_ok-apply.ensures.applies h.tree (store-held c.args.loaded.now.store h c.requires.counted)).store)

pub returns-clause-held : goal.returns-clause-held
returns-clause-held g c =
    let h = c.requires.held in
    let made = c.in_ok-apply.ensures.applies h.tree (store-held c.args.loaded.now.store h c.requires.counted) in
    let t = edited h.tree c.in_ok-edit.edit in
    held-store c.settle_where_due.new.loaded.store t (c.settle_where_due.ensures.store t made.store) c.settle_where_due.ensures.grammar

pub returns-clause-counted : goal.returns-clause-counted
returns-clause-counted g c =
    let h = c.requires.held in
    let made = c.in_ok-apply.ensures.applies h.tree (store-held c.args.loaded.now.store h c.requires.counted) in
    let t = edited h.tree c.in_ok-edit.edit in
    counted-store c.settle_where_due.new.loaded.store t (c.settle_where_due.ensures.store t made.store) c.settle_where_due.ensures.marks

pub returns-clause-comes : goal.returns-clause-comes
returns-clause-comes g c = λ told count.
    let h = c.requires.held in
    let i = store-held c.args.loaded.now.store h c.requires.counted in
    let made = c.in_ok-apply.ensures.applies h.tree i in
    let t = edited h.tree c.in_ok-edit.edit in
    let s = c.settle_where_due.ensures in
    edit-done c.args.settings (act_of c.args.command) c.requires.edit c.args.loaded.now told count h.tree i c.in_ok-edit.edit c.in_ok-edit.ensures.asked c.nodes_of-count.result (c.nodes_of-count.ensures h.tree i) c.in_ok-edit.ensures.there
    c.apply.new.store c.settle_where_due.new.loaded c.settle_where_due.result made (s.store t made.store) s.names s.size s.kept s.ranks (s.settled t made.store)
