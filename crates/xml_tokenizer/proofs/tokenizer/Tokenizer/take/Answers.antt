use Rattle.std.proofs.Common.{◌∙◌, refl}
use Rattle.xml_tokenizer.proofs.Advancing.{advances_none, advances_on, advances_break, err_same}
use Rattle.xml_tokenizer.proofs.tokenizer.Tokenizer.take.Goals as goal

pub loop-rest-init : goal.loop-rest-init
loop-rest-init g c = record { lenders = refl; ready = c.requires.ready; advances = advances_none g.S.TokenSink.step c.args.self.now (g.S.TokenSink.state c.args.sink.now) c.args.bytes.now }

pub loop-rest-preserved : goal.loop-rest-preserved
loop-rest-preserved g c = record {
  lenders = c.in-Ok.ensures.lenders ∙ c.loop-rest.invariant.lenders;
  ready = c.in-Ok.ensures.ready;
  advances = advances_on g.S.TokenSink.step c.args.self.now c.loop-rest.self (g.S.TokenSink.state c.args.sink.now) (g.S.TokenSink.state c.loop-rest.sink) c.args.bytes.now c.loop-rest.rest.now c.loop-rest.invariant.advances
      c.advance.new.self (g.S.TokenSink.state c.advance.new.sink) c.in-Ok.after.now c.in-Ok.ensures.ok;
}

pub returns-in-Err-clause-place : goal.returns-in-Err-clause-place
returns-in-Err-clause-place g c = λ bad.
    advances_break g.S.TokenSink.step c.args.self.now c.loop-rest.self (g.S.TokenSink.state c.args.sink.now) (g.S.TokenSink.state c.loop-rest.sink) c.args.bytes.now c.loop-rest.rest.now c.loop-rest.invariant.advances
    _ (c.advance.ensures.place (err_same c.advance.result _ c.in-Err.e _ c.in-Err.is bad))
