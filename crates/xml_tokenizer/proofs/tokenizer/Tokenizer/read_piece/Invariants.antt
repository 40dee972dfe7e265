use Rattle.std.proofs.Common.{◌≡◌, length}
use Rattle.xml_tokenizer.specs.Standing.{ReadsPiece}
use Rattle.xml_tokenizer.proofs.tokenizer.Tokenizer.read_piece.Given as goal

abbrev pub invariant-loop-rest : goal.invariant-loop-rest
invariant-loop-rest g l = record {
  lenders : g.S.TokenSink.lenders l.sink ≡ g.S.TokenSink.lenders l.fn.sink;
  ready : g.S.TokenSink.IsReady (g.S.TokenSink.state l.sink);
  reads : ReadsPiece g.S.TokenSink.step l.fn.self l.self (g.S.TokenSink.state l.fn.sink) (g.S.TokenSink.state l.sink) l.piece l.rest;
}

abbrev pub decreases-loop-rest : goal.decreases-loop-rest
decreases-loop-rest g l = length l.rest
