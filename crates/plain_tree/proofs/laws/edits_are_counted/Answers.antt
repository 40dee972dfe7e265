use Rattle.plain_tree.proofs.EditCounts.{edits-are-counted}
use Rattle.plain_tree.proofs.laws.edits_are_counted.Goals as goal

pub returns : goal.returns
returns c = edits-are-counted
