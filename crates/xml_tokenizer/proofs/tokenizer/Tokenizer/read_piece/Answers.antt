use Rattle.std.proofs.Common.{◌∙◌, refl}
use Rattle.xml_tokenizer.proofs.Advancing.{err_same}
use Rattle.xml_tokenizer.proofs.Lines.{reads_none, reads_on, reads_break}
use Rattle.xml_tokenizer.proofs.tokenizer.Tokenizer.read_piece.Goals as goal

pub loop-rest-init : goal.loop-rest-init
loop-rest-init g c = record { lenders = refl; ready = c.requires.ready; reads = reads_none g.S.TokenSink.step c.args.self.now (g.S.TokenSink.state c.args.sink.now) c.args.piece.now }

pub loop-rest-preserved : goal.loop-rest-preserved
loop-rest-preserved g c = record {
  lenders = c.in-Ok.ensures.lenders ∙ c.loop-rest.invariant.lenders;
  ready = c.in-Ok.ensures.ready;
  reads = reads_on g.S.TokenSink.step c.args.self.now c.loop-rest.self (g.S.TokenSink.state c.args.sink.now) (g.S.TokenSink.state c.loop-rest.sink) c.args.piece.now c.loop-rest.rest.now c.loop-rest.invariant.reads
      c.take_line.new.self (g.S.TokenSink.state c.take_line.new.sink) c.in-Ok.after.now c.in-Ok.ensures.ok;
}

pub returns-in-Err-clause-place : goal.returns-in-Err-clause-place
returns-in-Err-clause-place g c = λ bad.
    reads_break g.S.TokenSink.step c.args.self.now c.loop-rest.self (g.S.TokenSink.state c.args.sink.now) (g.S.TokenSink.state c.loop-rest.sink) c.args.piece.now c.loop-rest.rest.now c.loop-rest.invariant.reads
    _ (c.take_line.ensures.place (err_same c.take_line.result _ c.in-Err.e _ c.in-Err.is bad))
