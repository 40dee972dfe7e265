use Rattle.std.proofs.Common.{◌≡◌, ◌+◌, ◌≤◌, drop}
use Rattle.slt_grammar.specs.Bodies.{params}
use Rattle.border_repair.proofs.cutting.count_params.Given as goal

abbrev pub invariant-loop-label : goal.invariant-loop-label
invariant-loop-label l = record { sum : l.count + params (drop l.label-index l.labels) ≡ params l.labels; few : l.count ≤ l.label-index }
