use Rattle.std.proofs.Common.{◌∙◌, ap, arith, reverse}
use Rattle.rule_runs.proofs.Lists.{reverse-front}
use Rattle.rule_runs.proofs.stack.drop_top.Goals as goal

pub returns : goal.returns
returns g c = ap reverse c.truncate.ensures.items ∙ reverse-front c.args.stack.now.items _ c.args.count (omega (arith, c.args.stack.now.ok.0, c.len.ensures, c.requires))
