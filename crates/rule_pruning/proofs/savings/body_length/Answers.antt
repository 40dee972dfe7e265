use Rattle.std.proofs.Common.{arith}
use Rattle.rule_pruning.proofs.SavingLemmas.{body-length}
use Rattle.rule_pruning.proofs.savings.body_length.Goals as goal

pub returns : goal.returns
returns c = omega (arith, c.body_size-nodes.ensures.size, c.rank.ensures, body-length c.args.grammar.now c.limit-limit.ensures.keyed c.args.rule c.requires)
