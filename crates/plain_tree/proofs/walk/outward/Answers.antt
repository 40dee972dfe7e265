use Rattle.std.proofs.Common.{[], sym}
use Rattle.plain_tree.proofs.WalkLemmas.{left_in-append}
use Rattle.plain_tree.proofs.walk.outward.Goals as goal

pub returns-in-Some : goal.returns-in-Some
returns-in-Some c = rw (c.in-Some.ensures.items) (sym (left_in-append c.pop.new.self.items c.in-Some.frame []))
