use Rattle.std.proofs.Common.{◌≡◌, ◌+◌}
use Rattle.std.specs.Prelude.{slice_range}
use Rattle.bulk_rewrite.specs.Fates.{Joins, Redone, redone_alike}
use Rattle.bulk_rewrite.specs.Redoing.{all_texts}
use Rattle.bulk_rewrite.proofs.redoing.Redoing.join_all.Given as goal

abbrev pub invariant-texts : goal.invariant-texts
invariant-texts l = record {
  originals : l.self.originals ≡ l.initial.self.originals;
  texts : (r : Redone) → all_texts l.self r ≡ all_texts l.initial.self (redone_alike Joins (slice_range l.initial.self.originals l.place (l.place + l.next)) r);
}
