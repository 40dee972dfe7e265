use Rattle.content_models.proofs.LawLemmas.{wrong-same}
use Rattle.content_models.proofs.laws.wrong_one.Goals as goal

pub returns : goal.returns
returns c = wrong-same
