use Rattle.std.proofs.Common.{◌≡◌, ◌++◌, drop}
use Rattle.slt_grammar.specs.Segments.{segment}
use Rattle.border_repair.proofs.expanding.add_segment.Given as goal

abbrev pub invariant-labels : goal.invariant-labels
invariant-labels l = l.initial.labels.items ++ segment l.part l.outside ≡ l.labels.items ++ segment l.before (drop l.label-index l.outside)
