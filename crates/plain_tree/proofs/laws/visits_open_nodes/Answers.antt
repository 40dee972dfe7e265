use Rattle.plain_tree.proofs.WalkLemmas.{opened-visits}
use Rattle.plain_tree.proofs.laws.visits_open_nodes.Goals as goal

pub returns : goal.returns
returns c = opened-visits
