use Rattle.store_core.specs.StoreOf.{parts_of}
use Rattle.store_core.proofs.EditReads.{named-reads}
use Rattle.store_core.proofs.bulk_editing.edit_selected.Goals as goal

pub returns-in-RenameAll-clause-comes : goal.returns-in-RenameAll-clause-comes
returns-in-RenameAll-clause-comes g c = rw c.in-RenameAll.is c.rename_selected.ensures.comes

pub returns-in-DeleteAll-clause-comes : goal.returns-in-DeleteAll-clause-comes
returns-in-DeleteAll-clause-comes g c = rw c.in-DeleteAll.is c.delete_selected.ensures.comes

pub returns-in-RenameAll-clause-reads : goal.returns-in-RenameAll-clause-reads
returns-in-RenameAll-clause-reads g c = rw c.in-RenameAll.is (λ query edits. named-reads c.in-RenameAll.query.now query (parts_of c.args.loaded.now.store) c.args.steps.now c.rename_selected.new.steps edits c.rename_selected.ensures.reads)

pub returns-in-DeleteAll-clause-reads : goal.returns-in-DeleteAll-clause-reads
returns-in-DeleteAll-clause-reads g c = rw c.in-DeleteAll.is (λ query edits. named-reads c.in-DeleteAll.query.now query (parts_of c.args.loaded.now.store) c.args.steps.now c.delete_selected.new.steps edits c.delete_selected.ensures.reads)
