use Rattle.slt_grammar.proofs.Standing.{stands-for-one}
use Rattle.slt_grammar.proofs.laws.stands_for_one.Goals as goal

pub returns : goal.returns
returns c = stands-for-one
