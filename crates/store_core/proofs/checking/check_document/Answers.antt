use Rattle.std.proofs.Common.{refl}
use Rattle.std.proofs.lemmas.Result.{err_from_is_err_and}
use Rattle.content_models.specs.Rules.{rules_of as models_of}
use Rattle.store_core.specs.Acts.{Check}
use Rattle.store_core.specs.StoreOf.{parts_of}
use Rattle.store_core.proofs.Checked.{checked, no_schema}
use Rattle.store_core.proofs.FoundFiles.{check_reads, ready_to_load}
use Rattle.store_core.proofs.checking.check_document.Goals as goal

pub returns-in_err-schema-clause-refused : goal.returns-in_err-schema-clause-refused
returns-in_err-schema-clause-refused g c =
    let p = err_from_is_err_and c.from_residual-in_err-schema.result c.from_residual-in_err-schema.ensures.1 in
    let file = c.in_ok-bytes.ensures in
    rw (p.1, p.2) (λ state some. no_schema c.in_err-schema.field-0.0 c.args.name.now c.deref.result.now _ _ some (rw c.deref.ensures.value (file.held state)) (rw c.deref.ensures.value file.short) c.in_err-schema.ensures.refused)

pub returns-in_err-found-clause-refused : goal.returns-in_err-found-clause-refused
returns-in_err-found-clause-refused g c =
    let p = err_from_is_err_and c.from_residual-in_err-found.result c.from_residual-in_err-found.ensures.1 in
    let file = c.in_ok-bytes.ensures in
    rw (p.1, p.2) (λ state some. ready_to_load (Check c.args.name.now) _ c.args.name.now _ (check_reads c.args.name.now state some) (file.held state))

pub returns-in_err-answer-clause-refused : goal.returns-in_err-answer-clause-refused
returns-in_err-answer-clause-refused g c =
    let p = err_from_is_err_and c.from_residual-in_err-answer.result c.from_residual-in_err-answer.ensures.1 in
    let file = c.in_ok-bytes.ensures in
    rw (p.1, p.2) (λ state some. ready_to_load (Check c.args.name.now) _ c.args.name.now _ (check_reads c.args.name.now state some) (file.held state))

pub returns-clause-checks : goal.returns-clause-checks
returns-clause-checks g c = λ state held.
    let file = c.in_ok-bytes.ensures in
    checked c.args.name.now c.deref.result.now (models_of c.in_ok-schema.schema) (parts_of c.args.store.now) _ c.in_ok-answer.answer _ _ (rw c.deref.ensures.value (file.held state)) (rw c.deref.ensures.value file.short) c.in_ok-schema.ensures.spelled
    c.requires.held held c.in_ok-found.ensures c.in_ok-answer.ensures refl file.files
