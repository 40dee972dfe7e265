use Rattle.content_models.proofs.LawLemmas.{names-are}
use Rattle.content_models.proofs.laws.names_are_names.Goals as goal

pub returns : goal.returns
returns c = names-are
