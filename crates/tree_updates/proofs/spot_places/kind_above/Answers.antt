use Rattle.tree_updates.proofs.SpotPlaces.{is-under}
use Rattle.tree_updates.proofs.spot_places.kind_above.Goals as goal

pub returns-then-place-number : goal.returns-then-place-number
returns-then-place-number c = record { above = λ t d low e. (is-under t c.args.number c.args.place d c.requires.behind low e).document c.if-place-number.true }

pub returns-else-place-number : goal.returns-else-place-number
returns-else-place-number c = record { above = λ t d low e. (is-under t c.args.number c.args.place d c.requires.behind low e).element c.if-place-number.false }
