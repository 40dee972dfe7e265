use Rattle.slt_grammar.proofs.Linear.{value_at-linear}
use Rattle.slt_grammar.proofs.laws.values_are_linear.Goals as goal

pub returns : goal.returns
returns c = value_at-linear
