use Rattle.std.proofs.Common.{◌+◌, Err, ap, arith, ◌∙◌}
use Rattle.xml_tokenizer.proofs.Advancing.{advances_run, run_breaks, run_fits}
use Rattle.xml_tokenizer.proofs.tokenizer.Tokenizer.take_run.Goals as goal

pub pass-requires-in-Err-Here : goal.pass-requires-in-Err-Here
pass-requires-in-Err-Here g c =
    let refused = c.run.ensures.refused c.in-Err-Here.at (c.in-Err-Here.is ∙ ap Err c.in-Err-Here.field-0-is) in
    omega (arith, c.in-Err-Here.at-is, c.requires.count, run_fits g.S.TokenSink.step c.args.self.now (g.S.TokenSink.state c.args.sink.now) c.args.rest.now c.args.left.now c.in-Err-Here.at c.requires.run refused)

pub returns-in-Ok-clause-ok : goal.returns-in-Ok-clause-ok
returns-in-Ok-clause-ok g c =
    advances_run g.S.TokenSink.step c.args.self.now (g.S.TokenSink.state c.args.sink.now) c.args.rest.now c.pass.new.self (g.S.TokenSink.state c.run.new.self) c.args.left.now c.requires.run c.requires.none_held c.in-Ok.ensures.took
    (ap (λ v. v.items) c.pass.ensures.held) c.pass.ensures.scan c.pass.ensures.count c.pass.ensures.start

pub returns-in-Err-Here-clause-place : goal.returns-in-Err-Here-clause-place
returns-in-Err-Here-clause-place g c = λ bad.
    let refused = c.run.ensures.refused c.in-Err-Here.at (c.in-Err-Here.is ∙ ap Err c.in-Err-Here.field-0-is) in
    run_breaks g.S.TokenSink.step c.args.self.now (g.S.TokenSink.state c.args.sink.now) c.args.rest.now c.args.left.now c.in-Err-Here.at _ c.requires.run c.requires.none_held refused
    (c.pass-in-Err-Here.ensures.start ∙ ap (λ z. c.args.self.now.count + z) c.in-Err-Here.at-is)
