use Rattle.rule_arena.proofs.TakingLaws.{keys_stay}
use Rattle.rule_arena.proofs.laws.keys_before_stay.Goals as goal

pub returns : goal.returns
returns c = keys_stay
