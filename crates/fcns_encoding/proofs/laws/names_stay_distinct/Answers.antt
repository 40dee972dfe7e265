use Rattle.fcns_encoding.proofs.InternLemmas.{Interns-distinct}
use Rattle.fcns_encoding.proofs.laws.names_stay_distinct.Goals as goal

pub returns : goal.returns
returns c = Interns-distinct
