use Rattle.plain_tree.proofs.EditTurns.{plain-edits-in-turn}
use Rattle.plain_tree.proofs.laws.plain_edits_in_turn.Goals as goal

pub returns : goal.returns
returns c = plain-edits-in-turn
