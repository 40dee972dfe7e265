use Rattle.value_cursor.proofs.Subtrees.{cursors-tell-subtrees}
use Rattle.value_cursor.proofs.laws.cursors_tell_subtrees.Goals as goal

pub returns : goal.returns
returns c = cursors-tell-subtrees
