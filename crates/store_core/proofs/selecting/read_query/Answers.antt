use Rattle.std.proofs.Common.{Err, ap}
use Rattle.std.proofs.lemmas.Result.{err_from_is_err_and}
use Rattle.store_core.proofs.Asked.{query_says}
use Rattle.store_core.proofs.selecting.read_query.Goals as goal

pub returns-in_err-query-clause-refused : goal.returns-in_err-query-clause-refused
returns-in_err-query-clause-refused c =
    let p = err_from_is_err_and c.from_residual.result c.from_residual.ensures.1 in
    let says = query_says c.in_err-query.field-0.0 c.args.text.now (λ same. c.in_err-query.ensures.bad (ap Err same)) (λ same. let l = c.in_err-query.ensures.large (ap Err same) in (l.0.0, l.0.1, l.1 l.0.0 l.0.1)) in
    rw p.1 (p.2 c.args.text.now says)

pub returns-clause-reading : goal.returns-clause-reading
returns-clause-reading c =
    let s = c.in_ok-query.ensures.spelled in
    record { paths = s.0; spelled = s.1; within = c.in_ok-query.ensures.small s.0 s.1; means = s.2 }
