use Rattle.std.proofs.Common.{rules, ◌≡◌, Some}
use Rattle.border_repair.proofs.folding.pair_at.Goals as goal

pub returns-in_default-clause-none : goal.returns-in_default-clause-none
returns-in_default-clause-none c u y t e = let h = c.root_from_top.ensures.one y t in let f = c.in_default.is in absurd cc

pub returns-then-ne-2-clause-none : goal.returns-then-ne-2-clause-none
returns-then-ne-2-clause-none c u y t e = let f : Some c.in-Some.root ≡ Some y = c.in-Some.ensures.one y t in let g : c.in-Some.root.label ≡ c.args.digram.lower = cc in search rules
