use Rattle.rule_arena.proofs.TakingLaws.{dissolving}
use Rattle.rule_arena.proofs.laws.dissolving_merges.Goals as goal

pub returns : goal.returns
returns c = dissolving
