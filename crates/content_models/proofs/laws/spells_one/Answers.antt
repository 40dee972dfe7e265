use Rattle.content_models.proofs.ReadLines.{spelled-one}
use Rattle.content_models.proofs.laws.spells_one.Goals as goal

pub returns : goal.returns
returns c = spelled-one
