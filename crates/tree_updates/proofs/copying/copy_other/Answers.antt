use Rattle.std.proofs.Common.{arith}
use Rattle.std.proofs.lemmas.Result.{err_from_is_err_and}
use Rattle.plain_tree.specs.declared.edit.Edit.TheVariants.{Copy}
use Rattle.tree_updates.specs.declared.store.EditError.TheVariants.{Memory, TooMany}
use Rattle.tree_updates.proofs.CopiedNodes.{copy-made, copy-wanting, may-copy, some-below, too-many}
use Rattle.tree_updates.proofs.LeavingDocuments.{coded, unswept}
use Rattle.tree_updates.proofs.StoreLemmas.{refused-there, total-is}
use Rattle.tree_updates.proofs.Fronts.{cut-stay}
use Rattle.tree_updates.proofs.copying.copy_other.Goals as goal

pub extent_of-requires-clause-store : goal.extent_of-requires-clause-store
extent_of-requires-clause-store g c = let r = c.requires.store in (r.0, unswept c.args.store.now r.0 r.1)

pub returns-in_err-extent-clause-applies : goal.returns-in_err-extent-clause-applies
returns-in_err-extent-clause-applies g c =
    let p = err_from_is_err_and c.from_residual.result c.from_residual.ensures.1 in
    rw (p.1, p.2) (λ t i allowed other. refused-there t (Copy c.args.number) Memory c.args.store.now tt i)

pub overflow_sub-total : goal.overflow_sub-total
overflow_sub-total g c =
    let r = c.requires.store in
    omega (arith, c.total.ensures.kept, total-is c.args.store.now r.0 r.1 c.limit-limit.ensures.keyed.grammar, r.1.small)

pub returns-then-extent-total-clause-applies : goal.returns-then-extent-total-clause-applies
returns-then-extent-total-clause-applies g c = λ t i allowed other.
    let s = c.args.store.now in
    let n = c.args.number in
    let X = c.in_ok-extent.ensures.extent t (coded s t (unswept s t i)) in
    refused-there t (Copy n) TooMany s (too-many t i.stand.document n allowed other c.in_ok-extent.extent X (omega (arith, c.if-extent-total.true, c.total.ensures.kept, total-is s t i c.limit-limit.ensures.keyed.grammar))) i

pub copy_alone-requires-clause-store : goal.copy_alone-requires-clause-store
copy_alone-requires-clause-store g c =
    let s = c.args.store.now in
    let r = c.requires.store in
    let X = c.in_ok-extent.ensures.extent r.0 (coded s r.0 (unswept s r.0 r.1)) in
    (r.0, r.1, may-copy r.0 r.1.stand.document c.args.number r.2 r.3 c.in_ok-extent.extent X (omega (arith, c.if-extent-total.false, c.total.ensures.kept, total-is s r.0 r.1 c.limit-limit.ensures.keyed.grammar)))

pub copy_whole-requires-clause-store : goal.copy_whole-requires-clause-store
copy_whole-requires-clause-store g c =
    let s = c.args.store.now in
    let r = c.requires.store in
    let X = c.in_ok-extent.ensures.extent r.0 (coded s r.0 (unswept s r.0 r.1)) in
    (r.0, r.1, may-copy r.0 r.1.stand.document c.args.number r.2 r.3 c.in_ok-extent.extent X (omega (arith, c.if-extent-total.false, c.total.ensures.kept, total-is s r.0 r.1 c.limit-limit.ensures.keyed.grammar)))

pub copy_whole-requires-clause-some : goal.copy_whole-requires-clause-some
copy_whole-requires-clause-some g c =
    let s = c.args.store.now in
    let r = c.requires.store in
    some-below r.0 c.args.number c.in_ok-extent.extent (c.in_ok-extent.ensures.extent r.0 (coded s r.0 (unswept s r.0 r.1))) c.if-extent-eq1.false

pub returns-in_err-copy_alone-clause-applies : goal.returns-in_err-copy_alone-clause-applies
returns-in_err-copy_alone-clause-applies g c =
    let e = c.in_err-copy_alone.ensures in
    let p = err_from_is_err_and c.from_residual-in_err-copy_alone.result c.from_residual-in_err-copy_alone.ensures.1 in
    rw (p.1, p.2) (λ t i allowed other. copy-wanting c.args.store.now c.copy_alone.new.store t c.args.number (e.kept t i) c.copy_alone.ensures.names e.rules e.texts)

pub returns-in_ok-copy_alone-clause-applies : goal.returns-in_ok-copy_alone-clause-applies
returns-in_ok-copy_alone-clause-applies g c = λ t i allowed other.
    let s = c.args.store.now in
    let n = c.args.number in
    let X = c.in_ok-extent.ensures.extent t (coded s t (unswept s t i)) in
    let M = may-copy t i.stand.document n allowed other c.in_ok-extent.extent X (omega (arith, c.if-extent-total.false, c.total.ensures.kept, total-is s t i c.limit-limit.ensures.keyed.grammar)) in
    copy-made s c.copy_alone.new.store t n i.stand.document allowed other (c.in_ok-copy_alone.ensures.store t i M) c.copy_alone.ensures.names c.in_ok-copy_alone.ensures.size c.in_ok-copy_alone.ensures.ranks

pub returns-in_err-copy_whole-clause-applies : goal.returns-in_err-copy_whole-clause-applies
returns-in_err-copy_whole-clause-applies g c =
    let e = c.in_err-copy_whole.ensures in
    let p = err_from_is_err_and c.from_residual-in_err-copy_whole.result c.from_residual-in_err-copy_whole.ensures.1 in
    rw (p.1, p.2) (λ t i allowed other. copy-wanting c.args.store.now c.copy_whole.new.store t c.args.number (e.kept t i) c.copy_whole.ensures.names e.rules e.texts)

pub returns-in_ok-copy_whole-clause-applies : goal.returns-in_ok-copy_whole-clause-applies
returns-in_ok-copy_whole-clause-applies g c = λ t i allowed other.
    let s = c.args.store.now in
    let n = c.args.number in
    let X = c.in_ok-extent.ensures.extent t (coded s t (unswept s t i)) in
    let M = may-copy t i.stand.document n allowed other c.in_ok-extent.extent X (omega (arith, c.if-extent-total.false, c.total.ensures.kept, total-is s t i c.limit-limit.ensures.keyed.grammar)) in
    copy-made s c.copy_whole.new.store t n i.stand.document allowed other (c.in_ok-copy_whole.ensures.store t i M) c.copy_whole.ensures.names c.in_ok-copy_whole.ensures.size c.in_ok-copy_whole.ensures.ranks

pub returns-in_err-copy_alone-clause-marks : goal.returns-in_err-copy_alone-clause-marks
returns-in_err-copy_alone-clause-marks g c =
    let s = c.args.store.now in
    c.copy_alone.ensures.marks s.names c.cut.new.self
    (cut-stay s.names s.grammar c.args.spot.now.levels.items c.args.spot.now.first c.first.result c.extent_of.new.marks c.cut.new.self c.cut.ensures c.limit-limit.ensures.keyed c.extent_of.ensures.marks c.first.ensures c.requires.first)

pub returns-in_ok-copy_alone-clause-marks : goal.returns-in_ok-copy_alone-clause-marks
returns-in_ok-copy_alone-clause-marks g c =
    let s = c.args.store.now in
    c.copy_alone.ensures.marks s.names c.cut.new.self
    (cut-stay s.names s.grammar c.args.spot.now.levels.items c.args.spot.now.first c.first.result c.extent_of.new.marks c.cut.new.self c.cut.ensures c.limit-limit.ensures.keyed c.extent_of.ensures.marks c.first.ensures c.requires.first)

pub returns-in_err-copy_whole-clause-marks : goal.returns-in_err-copy_whole-clause-marks
returns-in_err-copy_whole-clause-marks g c =
    let s = c.args.store.now in
    c.copy_whole.ensures.marks s.names c.cut.new.self
    (cut-stay s.names s.grammar c.args.spot.now.levels.items c.args.spot.now.first c.first.result c.extent_of.new.marks c.cut.new.self c.cut.ensures c.limit-limit.ensures.keyed c.extent_of.ensures.marks c.first.ensures c.requires.first)

pub returns-in_ok-copy_whole-clause-marks : goal.returns-in_ok-copy_whole-clause-marks
returns-in_ok-copy_whole-clause-marks g c =
    let s = c.args.store.now in
    c.copy_whole.ensures.marks s.names c.cut.new.self
    (cut-stay s.names s.grammar c.args.spot.now.levels.items c.args.spot.now.first c.first.result c.extent_of.new.marks c.cut.new.self c.cut.ensures c.limit-limit.ensures.keyed c.extent_of.ensures.marks c.first.ensures c.requires.first)
