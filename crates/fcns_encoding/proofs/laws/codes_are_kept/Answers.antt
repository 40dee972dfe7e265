use Rattle.fcns_encoding.proofs.InternLemmas.{codes-kept}
use Rattle.fcns_encoding.proofs.laws.codes_are_kept.Goals as goal

pub returns : goal.returns
returns c = codes-kept
