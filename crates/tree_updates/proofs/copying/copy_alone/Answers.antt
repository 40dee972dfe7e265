use Rattle.plain_tree.specs.declared.edit.Edit.TheVariants.{Copy}
use Rattle.plain_tree.specs.Edits.{placed}
use Rattle.tree_updates.proofs.LeavingDocuments.{unswept}
use Rattle.std.proofs.Common.{refl}
use Rattle.tree_updates.proofs.Fronts.{keeps-still, keeps-swept}
use Rattle.tree_updates.proofs.copying.copy_alone.Goals as goal

pub put_alone-requires-clause-store : goal.put_alone-requires-clause-store
put_alone-requires-clause-store g c =
    let r = c.requires.store in
    let s = c.reserve_copy.new.store in
    (r.0, unswept s r.0 (c.reserve_copy.ensures.store r.0 r.1), r.2)

pub sweep-requires : goal.sweep-requires
sweep-requires g c =
    let r = c.requires.store in
    let s = c.reserve_copy.new.store in
    record { store = (placed r.0 (Copy c.args.number), c.put_alone.ensures.store r.0 (unswept s r.0 (c.reserve_copy.ensures.store r.0 r.1)) r.2) }

pub returns-clause-store : goal.returns-clause-store
returns-clause-store g c = λ t i M.
    let s = c.reserve_copy.new.store in
    c.sweep.ensures.store (placed t (Copy c.args.number)) (c.put_alone.ensures.store t (unswept s t (c.reserve_copy.ensures.store t i)) M)

pub returns-in_err-body-clause-marks : goal.returns-in_err-body-clause-marks
returns-in_err-body-clause-marks g c = keeps-still c.args.store.now.names c.args.store.now.grammar.rules c.args.number c.args.spot.now c.requires.spot c.args.store.now.grammar.rules refl

pub returns-in_err-reserve_copy-clause-marks : goal.returns-in_err-reserve_copy-clause-marks
returns-in_err-reserve_copy-clause-marks g c =
    keeps-still c.args.store.now.names c.args.store.now.grammar.rules c.args.number c.args.spot.now c.requires.spot c.reserve_copy.new.store.grammar.rules c.reserve_copy.ensures.rules

pub returns-clause-marks : goal.returns-clause-marks
returns-clause-marks g c =
    keeps-swept c.args.spot.now.levels.items c.args.store.now.grammar.rules c.reserve_copy.new.store.grammar.rules c.put_alone.new.store.grammar.rules c.sweep.new.store.grammar.rules c.reserve_copy.ensures.rules c.put_alone.ensures.front c.sweep.ensures.marks
