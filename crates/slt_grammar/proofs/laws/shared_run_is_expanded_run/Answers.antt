use Rattle.slt_grammar.proofs.Carrying.{up-value_at}
use Rattle.slt_grammar.proofs.laws.shared_run_is_expanded_run.Goals as goal

pub returns : goal.returns
returns g c = up-value_at
