use Rattle.fcns_encoding.proofs.LawfulLemmas.{names-lawful}
use Rattle.fcns_encoding.proofs.laws.names_are_lawful.Goals as goal

pub returns : goal.returns
returns c = names-lawful
