use Rattle.slt_grammar.proofs.Substitutions.{substitute-substitute}
use Rattle.slt_grammar.proofs.laws.substitutions_compose.Goals as goal

pub returns : goal.returns
returns c = substitute-substitute
