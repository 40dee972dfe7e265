use Rattle.std.proofs.Common.{arith, sym, ◌∙◌}
use Rattle.std.proofs.lemmas.Fmt.{decimal_injective}
use Rattle.store_shell.proofs.parse.records.Goals as goal
use Rattle.store_shell.proofs.parse.records.Goals.{else-records-ge1-via-then-records-ge1+else-records-le-MOST_RECORDS, else-records-ge1-via-else-records-ge1}

pub returns-else-records-ge1 : goal.returns-else-records-ge1
returns-else-records-ge1 c = λ n some few is.
    let same = decimal_injective n c.in_ok-records.records (omega arith) (omega arith) (sym is ∙ c.in_ok-records.ensures) in
    elim c.else-records-ge1.branch [
      | else-records-ge1-via-then-records-ge1+else-records-le-MOST_RECORDS w ↦ absurd (omega (arith, same, w.if-records-ge1, w.if-records-le-MOST_RECORDS))
      | else-records-ge1-via-else-records-ge1 w ↦ absurd (omega (arith, same, w.if-records-ge1))
    ]
