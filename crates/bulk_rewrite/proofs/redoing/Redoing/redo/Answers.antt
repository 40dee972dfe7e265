use Rattle.std.proofs.Common.{◌+◌, sym, ap}
use Rattle.std.specs.Prelude.{slice_range}
use Rattle.bulk_rewrite.specs.Redoing.{all_texts}
use Rattle.bulk_rewrite.proofs.Redone.{alike-drop}
use Rattle.bulk_rewrite.proofs.redoing.Redoing.redo.Goals as goal

pub returns-in-Drops-clause-texts : goal.returns-in-Drops-clause-texts
returns-in-Drops-clause-texts c = rw c.in-Drops.is (λ r. ap (all_texts c.args.self.now) (sym (alike-drop (slice_range c.args.self.now.originals c.args.place (c.args.place + c.args.count)) r)))
