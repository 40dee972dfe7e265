use Rattle.grammar_file.specs.Numbers.{number_bytes}
use Rattle.grammar_file.specs.BufferOf.{seen}
use Rattle.grammar_file.proofs.Putting.{IsPutting}
use Rattle.grammar_file.proofs.buffer.Buffer.number.Given as goal

abbrev pub invariant-loop-rest : goal.invariant-loop-rest
invariant-loop-rest g l = IsPutting (seen g.K.Sink l.initial.self) (seen g.K.Sink l.self) (number_bytes l.number) (number_bytes l.rest)

abbrev pub decreases-loop-rest : goal.decreases-loop-rest
decreases-loop-rest g l = l.rest
