use Rattle.rule_arena.proofs.TakingLaws.{detaching}
use Rattle.rule_arena.proofs.laws.detaching_is_covered.Goals as goal

pub returns : goal.returns
returns c = detaching
