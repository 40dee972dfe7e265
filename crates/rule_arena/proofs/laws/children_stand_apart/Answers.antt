use Rattle.rule_arena.proofs.TakingLaws.{child_apart}
use Rattle.rule_arena.proofs.laws.children_stand_apart.Goals as goal

pub returns : goal.returns
returns c = child_apart
