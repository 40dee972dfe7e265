use Rattle.std.proofs.Common.{refl}
use Rattle.fcns_encoding.proofs.CellLemmas.{has_get}
use Rattle.fcns_encoding.proofs.MarkLemmas.{counted-more}
use Rattle.fcns_encoding.proofs.marks.count_use.Goals as goal

pub returns : goal.returns
returns c numbers counted =
    counted-more c.args.uses.now _ numbers c.args.number _ _ counted c.requires.there (has_get c.args.uses.now c.args.number _ c.requires.there) c.saturating_add.ensures refl
