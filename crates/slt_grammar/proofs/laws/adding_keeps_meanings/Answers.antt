use Rattle.slt_grammar.proofs.Adding.{adding-keeps}
use Rattle.slt_grammar.proofs.laws.adding_keeps_meanings.Goals as goal

pub returns : goal.returns
returns g c = adding-keeps
