use Rattle.std.proofs.Common.{◌≡◌, [], replicate}
use Rattle.content_models.proofs.compile.empty_rows.Given as goal

abbrev pub invariant-rows : goal.invariant-rows
invariant-rows l = l.rows.items ≡ replicate l.counter []
