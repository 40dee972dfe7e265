use Rattle.std.proofs.Common.{sym, subst}
use Rattle.rule_runs.specs.Notes.{AreKept, either}
use Rattle.rule_runs.proofs.KeptNotes.{kept-noted}
use Rattle.rule_runs.proofs.kept.Reading.new.Goals as goal

pub returns : goal.returns
returns g c = record { kept = λ A G ks l h. subst (λ ms. AreKept A G ks (either c.args.noted.now ms)) (sym c.in_ok-unnoted.ensures) (kept-noted A G ks c.args.noted.now c.args.pairs l h) }
