use Rattle.std.proofs.Common.{refl, subst, sym}
use Rattle.std.proofs.lemmas.Result.{err_from_is_err_and}
use Rattle.slt_grammar.specs.Grammars.{IsGrammar}
use Rattle.store_core.specs.Acts.{RenameAll}
use Rattle.store_core.specs.BulkEditing.{Renaming, edited_all}
use Rattle.store_core.specs.BulkStores.{hits_in}
use Rattle.store_core.specs.StoreOf.{parts_of}
use Rattle.store_core.proofs.BulkEdits.{all-done, all-refused, no-name, no-query}
use Rattle.store_core.proofs.EditReads.{edit-reads}
use Rattle.store_core.proofs.Edited.{counted-store, held-store, store-held}
use Rattle.store_core.proofs.bulk_editing.rename_selected.Goals as goal

pub returns-in_err-selector-clause-comes : goal.returns-in_err-selector-clause-comes
returns-in_err-selector-clause-comes g c = λ told count.
    let p = err_from_is_err_and c.from_residual.result c.from_residual.ensures.1 in
    rw (p.1, p.2) (no-query (RenameAll c.args.name.now c.args.query.now) tt c.args.loaded.now told count c.args.query.now refl c.in_err-selector.field-0.0 c.in_err-selector.ensures.refused)

pub returns-in_err-check_name-clause-comes : goal.returns-in_err-check_name-clause-comes
returns-in_err-check_name-clause-comes g c = λ told count.
    let p = err_from_is_err_and c.from_residual-in_err-check_name.result c.from_residual-in_err-check_name.ensures.1 in
    let why = c.in_err-check_name.ensures.refused in
    rw (p.1, p.2, why.0) (no-name (RenameAll c.args.name.now c.args.query.now) tt c.args.loaded.now told count c.args.query.now refl c.in_ok-selector.selector c.in_ok-selector.ensures.selector (c.args.name.now, refl, why.1))

pub returns-in_err-rename_hits-clause-held : goal.returns-in_err-rename_hits-clause-held
returns-in_err-rename_hits-clause-held g c =
    let h = c.requires.held in
    let left = c.in_err-rename_hits.ensures.applies h.tree (store-held c.args.loaded.now.store h c.requires.counted) in
    held-store c.rename_hits.new.store h.tree left.store (subst IsGrammar (sym left.rules) h.grammar)

pub returns-in_err-rename_hits-clause-counted : goal.returns-in_err-rename_hits-clause-counted
returns-in_err-rename_hits-clause-counted g c =
    let h = c.requires.held in
    let left = c.in_err-rename_hits.ensures.applies h.tree (store-held c.args.loaded.now.store h c.requires.counted) in
    counted-store c.rename_hits.new.store h.tree left.store c.rename_hits.ensures.marks

pub returns-in_err-rename_hits-clause-comes : goal.returns-in_err-rename_hits-clause-comes
returns-in_err-rename_hits-clause-comes g c = λ told count.
    let p = err_from_is_err_and c.from_residual-in_err-rename_hits.result c.from_residual-in_err-rename_hits.ensures.1 in
    let h = c.requires.held in
    let i = store-held c.args.loaded.now.store h c.requires.counted in
    rw (p.1, p.2)
    (all-refused c.args.settings (RenameAll c.args.name.now c.args.query.now) (Renaming c.args.name.now) c.args.query.now (c.in_ok-check_name.ensures.name, refl, refl) c.args.loaded.now told count h.tree i c.in_ok-selector.selector c.in_ok-selector.ensures.selector
    c.rename_hits.new.store c.in_err-rename_hits.field-0.0 (c.in_err-rename_hits.ensures.applies h.tree i))

pub settle_where_due-requires-clause-store : goal.settle_where_due-requires-clause-store
settle_where_due-requires-clause-store g c =
    let h = c.requires.held in
    (edited_all (Renaming c.args.name.now) (hits_in c.in_ok-selector.selector c.args.loaded.now.store) h.tree, (c.in_ok-rename_hits.ensures.applies h.tree (store-held c.args.loaded.now.store h c.requires.counted)).store)

pub returns-clause-held : goal.returns-clause-held
returns-clause-held g c =
    let h = c.requires.held in
    let made = c.in_ok-rename_hits.ensures.applies h.tree (store-held c.args.loaded.now.store h c.requires.counted) in
    let t = edited_all (Renaming c.args.name.now) (hits_in c.in_ok-selector.selector c.args.loaded.now.store) h.tree in
    held-store c.settle_where_due.new.loaded.store t (c.settle_where_due.ensures.store t made.store) c.settle_where_due.ensures.grammar

pub returns-clause-counted : goal.returns-clause-counted
returns-clause-counted g c =
    let h = c.requires.held in
    let made = c.in_ok-rename_hits.ensures.applies h.tree (store-held c.args.loaded.now.store h c.requires.counted) in
    let t = edited_all (Renaming c.args.name.now) (hits_in c.in_ok-selector.selector c.args.loaded.now.store) h.tree in
    counted-store c.settle_where_due.new.loaded.store t (c.settle_where_due.ensures.store t made.store) c.settle_where_due.ensures.marks

pub returns-clause-comes : goal.returns-clause-comes
returns-clause-comes g c = λ told count.
    let h = c.requires.held in
    let i = store-held c.args.loaded.now.store h c.requires.counted in
    let made = c.in_ok-rename_hits.ensures.applies h.tree i in
    let t = edited_all (Renaming c.args.name.now) (hits_in c.in_ok-selector.selector c.args.loaded.now.store) h.tree in
    let s = c.settle_where_due.ensures in
    all-done c.args.settings (RenameAll c.args.name.now c.args.query.now) (Renaming c.args.name.now) c.args.query.now (c.in_ok-check_name.ensures.name, refl, refl) c.args.loaded.now told count h.tree i c.in_ok-selector.selector c.in_ok-selector.ensures.selector
    c.rename_hits.new.store c.settle_where_due.new.loaded c.settle_where_due.result made (s.store t made.store) s.names s.size s.kept s.ranks (s.settled t made.store)

pub returns-in_err-rename_hits-clause-reads : goal.returns-in_err-rename_hits-clause-reads
returns-in_err-rename_hits-clause-reads g c =
    edit-reads c.args.query.now (parts_of c.args.loaded.now.store) c.in_ok-selector.selector c.args.steps.now c.rename_hits.new.steps c.spells_one.ensures c.in_ok-selector.ensures.selector c.rename_hits.ensures.reads

pub returns-clause-reads : goal.returns-clause-reads
returns-clause-reads g c =
    edit-reads c.args.query.now (parts_of c.args.loaded.now.store) c.in_ok-selector.selector c.args.steps.now c.rename_hits.new.steps c.spells_one.ensures c.in_ok-selector.ensures.selector c.rename_hits.ensures.reads
