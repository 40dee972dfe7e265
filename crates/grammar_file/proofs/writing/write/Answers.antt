use Rattle.grammar_file.proofs.Putting.{gets_nothing}
use Rattle.grammar_file.proofs.writing.write.Goals as goal

pub returns-in_default-clause-front : goal.returns-in_default-clause-front
returns-in_default-clause-front g c = gets_nothing (g.K.Sink.got c.args.sink.now) _
