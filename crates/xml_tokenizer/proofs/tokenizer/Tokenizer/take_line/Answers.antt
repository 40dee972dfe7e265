use Rattle.std.proofs.Common.{◌∷◌, refl, ap, ◌∙◌, arith}
use Rattle.xml_tokens.proofs.Lists.{cons_of, tail_of}
use Rattle.xml_tokenizer.proofs.Advancing.{err_same}
use Rattle.xml_tokenizer.proofs.Lines.{segment_of, reads_segment, segment_breaks, reads_return, return_breaks, reads_dropped}
use Rattle.xml_tokenizer.proofs.tokenizer.Tokenizer.take_line.Goals as goal

pub returns-then-first-eq10-clause-ok : goal.returns-then-first-eq10-clause-ok
returns-then-first-eq10-clause-ok g c =
    let d = c.drop_feed.ensures in
    reads_dropped g.S.TokenSink.step c.args.self.now (g.S.TokenSink.state c.args.sink.now) c.args.piece.now _ c.drop_feed.new.self
    (cons_of c.args.piece.now (omega (arith, c.requires.some)) ∙ ap (λ z. z ∷ tail_of c.args.piece.now) c.if-first-eq10.true) c.if-self.true d.held d.scan d.after_return d.count d.idle d.busy

pub returns-in-Err-clause-place : goal.returns-in-Err-clause-place
returns-in-Err-clause-place g c = λ bad.
    return_breaks g.S.TokenSink.step c.args.self.now (g.S.TokenSink.state c.args.sink.now) c.args.piece.now _
    (cons_of c.args.piece.now (omega (arith, c.requires.some)) ∙ ap (λ z. z ∷ tail_of c.args.piece.now) c.if-first-eq13.true) _
    (c.take.ensures.place (err_same c.take.result _ c.in-Err.e _ c.in-Err.is bad))

pub returns-then-first-eq13-clause-ok : goal.returns-then-first-eq13-clause-ok
returns-then-first-eq13-clause-ok g c =
    reads_return g.S.TokenSink.step c.args.self.now (g.S.TokenSink.state c.args.sink.now) c.args.piece.now _
    (cons_of c.args.piece.now (omega (arith, c.requires.some)) ∙ ap (λ z. z ∷ tail_of c.args.piece.now) c.if-first-eq13.true)
    c.take.new.self _ (g.S.TokenSink.state c.take.new.sink) c.in-Ok.ensures.ok (λ ts z h. h) refl refl

pub returns-in-Err-take-clause-place : goal.returns-in-Err-take-clause-place
returns-in-Err-take-clause-place g c = λ bad.
    let s = segment_of c.args.piece.now c.skip_to-left.result.now c.args.self.now.after_return c.skip_to-left.ensures.left c.requires.some c.if-first-eq13.false c.else-self.either in
    segment_breaks g.S.TokenSink.step c.args.self.now (g.S.TokenSink.state c.args.sink.now) c.args.piece.now c.skip_to-left.result.now _ s.whole s.plain s.first _
    (c.take-2.ensures.place (err_same c.take-2.result _ c.in-Err-take.e _ c.in-Err-take.is bad))

pub returns-clause-ok : goal.returns-clause-ok
returns-clause-ok g c =
    let s = segment_of c.args.piece.now c.skip_to-left.result.now c.args.self.now.after_return c.skip_to-left.ensures.left c.requires.some c.if-first-eq13.false c.else-self.either in
    reads_segment g.S.TokenSink.step c.args.self.now (g.S.TokenSink.state c.args.sink.now) c.args.piece.now c.skip_to-left.result.now _ s.whole s.plain s.first
    c.take-2.new.self _ (g.S.TokenSink.state c.take-2.new.sink) s.some c.in-Ok-take.ensures.ok (λ ts z h. h) refl refl

pub returns-clause-shorter : goal.returns-clause-shorter
returns-clause-shorter g c =
    (segment_of c.args.piece.now c.skip_to-left.result.now c.args.self.now.after_return c.skip_to-left.ensures.left c.requires.some c.if-first-eq13.false c.else-self.either).shorter
