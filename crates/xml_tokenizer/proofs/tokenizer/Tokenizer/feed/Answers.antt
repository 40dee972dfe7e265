use Rattle.xml_tokenizer.proofs.Breaking.{none_follow}
use Rattle.xml_tokenizer.proofs.Lines.{goes_all_ok}
use Rattle.xml_tokenizer.proofs.tokenizer.Tokenizer.feed.Goals as goal

pub returns-clause-ok : goal.returns-clause-ok
returns-clause-ok g c = goes_all_ok g.S.TokenSink.step c.args.self.now c.read_piece.new.self (g.S.TokenSink.state c.args.sink.now) (g.S.TokenSink.state c.read_piece.new.sink) c.args.piece.now c.read_piece.result c.read_piece.ensures.ok

pub returns-clause-bad : goal.returns-clause-bad
returns-clause-bad g c = λ bad tokens fed s. none_follow g.S.TokenSink.step (g.S.TokenSink.state c.args.sink.now) tokens _ _ (c.read_piece.ensures.place bad tokens fed s)
