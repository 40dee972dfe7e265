use Rattle.std.proofs.Common.{◌≡◌, ◌+◌, ◌≤◌, drop}
use Rattle.slt_grammar.specs.Bodies.{params}
use Rattle.slt_grammar.proofs.bodies.count_params.Given as goal

abbrev pub invariant-loop-label : goal.invariant-loop-label
invariant-loop-label l = record { sum : l.count + params (drop l.label-index l.body) ≡ params l.body; few : l.count ≤ l.label-index }
