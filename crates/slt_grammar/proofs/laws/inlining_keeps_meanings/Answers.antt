use Rattle.slt_grammar.proofs.Inlining.{inlining-keeps}
use Rattle.slt_grammar.proofs.laws.inlining_keeps_meanings.Goals as goal

pub returns : goal.returns
returns g c = inlining-keeps
