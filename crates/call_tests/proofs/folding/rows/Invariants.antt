use Rattle.std.proofs.Common.{◌≡◌, true}
use Rattle.call_tests.proofs.folding.rows.Given as goal

abbrev pub invariant-loop : goal.invariant-loop
invariant-loop l = record { sound : l.folder.sound ≡ true; depth : l.folder.depth ≡ 1 }
