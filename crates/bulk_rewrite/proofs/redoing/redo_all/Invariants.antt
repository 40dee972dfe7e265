use Rattle.std.proofs.Common.{◌≡◌, ◌-◌, ◌≤◌, drop}
use Rattle.bulk_rewrite.specs.Fates.{redone}
use Rattle.bulk_rewrite.specs.Redoing.{all_texts}
use Rattle.bulk_rewrite.specs.Tags.{told_fates}
use Rattle.bulk_rewrite.proofs.redoing.redo_all.Given as goal

abbrev pub decreases-texts : goal.decreases-texts
decreases-texts l = l.count - l.place

abbrev pub invariant-texts : goal.invariant-texts
invariant-texts l = record {
  within : l.place ≤ l.count;
  originals : l.redoing.originals ≡ l.fn.redoing.originals;
  texts : all_texts l.redoing (redone (told_fates l.answers) (drop l.place l.fn.redoing.originals)) ≡ all_texts l.fn.redoing (redone (told_fates l.fn.answers) l.fn.redoing.originals);
}
