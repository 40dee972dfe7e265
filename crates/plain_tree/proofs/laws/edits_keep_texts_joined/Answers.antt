use Rattle.plain_tree.proofs.TextsApart.{stays-joined}
use Rattle.plain_tree.proofs.laws.edits_keep_texts_joined.Goals as goal

pub returns : goal.returns
returns c = stays-joined
