use Rattle.std.proofs.Common.{◌≡◌, length}
use Rattle.xml_tokenizer.specs.Standing.{Advances}
use Rattle.xml_tokenizer.proofs.tokenizer.Tokenizer.take.Given as goal

abbrev pub invariant-loop-rest : goal.invariant-loop-rest
invariant-loop-rest g l = record {
  lenders : g.S.TokenSink.lenders l.sink ≡ g.S.TokenSink.lenders l.fn.sink;
  ready : g.S.TokenSink.IsReady (g.S.TokenSink.state l.sink);
  advances : Advances g.S.TokenSink.step l.fn.self l.self (g.S.TokenSink.state l.fn.sink) (g.S.TokenSink.state l.sink) l.bytes l.rest;
}

abbrev pub decreases-loop-rest : goal.decreases-loop-rest
decreases-loop-rest g l = length l.rest
