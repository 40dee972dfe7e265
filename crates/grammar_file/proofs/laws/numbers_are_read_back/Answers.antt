use Rattle.grammar_file.proofs.ReadBack.{read-back, shortest}
use Rattle.grammar_file.proofs.laws.numbers_are_read_back.Goals as goal

pub returns : goal.returns
returns c = record { read = read-back; shortest = shortest }
