use Rattle.std.proofs.Common.{◌≡◌, length}
use Rattle.slt_grammar.specs.Grammars.{body_at}
use Rattle.slt_grammar.specs.Keyed.{rules_of}
use Rattle.border_repair.specs.Rims.{rim_at}
use Rattle.border_repair.specs.Weighing.{root_from}
use Rattle.border_repair.proofs.rims.root_label.Given as goal

-- the root is that of the labels that are left
abbrev pub invariant-labels : goal.invariant-labels
invariant-labels g l = root_from (rim_at l.rims) (body_at (rules_of l.grammar.rules) l.rule) ≡ root_from (rim_at l.rims) l.walk

abbrev pub decreases-labels : goal.decreases-labels
decreases-labels g l = length l.walk
