use Rattle.bulk_rewrite.proofs.KnownNames.{found-sign}
use Rattle.bulk_rewrite.proofs.signs.known_sign.Goals as goal

pub returns : goal.returns
returns c = λ old. rw c.is_some.ensures (found-sign c.args.names.now c.args.kind c.args.name.now old c.find.result c.find.ensures.some c.find.ensures.none)
