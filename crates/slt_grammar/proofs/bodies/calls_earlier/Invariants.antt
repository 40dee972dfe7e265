use Rattle.std.proofs.Common.{◌↔◌, drop}
use Rattle.slt_grammar.specs.Bodies.{CallsBelow}
use Rattle.slt_grammar.proofs.bodies.calls_earlier.Given as goal

abbrev pub invariant-loop-label : goal.invariant-loop-label
invariant-loop-label l = CallsBelow l.rule (drop l.label-index l.body) ↔ CallsBelow l.rule l.body
