use Rattle.bulk_rewrite.proofs.KnownNames.{found-symbol}
use Rattle.bulk_rewrite.proofs.signs.new_symbol.Goals as goal

pub returns : goal.returns
returns c = λ old. rw c.unwrap_or.ensures (found-symbol c.args.names.now c.args.kind c.args.name.now old c.find.result c.args.symbol c.find.ensures.some c.find.ensures.none)
