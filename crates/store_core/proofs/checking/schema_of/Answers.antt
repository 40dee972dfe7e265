use Rattle.std.proofs.Common.{Err, ap}
use Rattle.std.proofs.lemmas.Result.{err_from_is_err_and}
use Rattle.store_core.proofs.Checked.{schema_says}
use Rattle.store_core.proofs.checking.schema_of.Goals as goal

pub returns-in_err-schema-clause-refused : goal.returns-in_err-schema-clause-refused
returns-in_err-schema-clause-refused c =
    let p = err_from_is_err_and c.from_residual.result c.from_residual.ensures.1 in
    let says = schema_says c.in_err-schema.field-0.0 c.args.bytes.now (λ same. c.in_err-schema.ensures.bad (ap Err same)) (λ same. let l = c.in_err-schema.ensures.large (ap Err same) in (l.0.0, l.0.1, l.1 l.0.0 l.0.1)) in
    rw p.1 (p.2 c.args.bytes.now says)

pub returns-clause-spelled : goal.returns-clause-spelled
returns-clause-spelled c =
    let s = c.in_ok-schema.ensures.spelled in
    record { given = s.0; spelled = s.1; within = c.in_ok-schema.ensures.small s.0 s.1; models = s.2 }
