use Rattle.fcns_encoding.proofs.LawfulLemmas.{list-names-lawful}
use Rattle.fcns_encoding.proofs.laws.list_names_are_lawful.Goals as goal

pub returns : goal.returns
returns c = list-names-lawful
