use Rattle.std.proofs.Common.{refl, sym, ap, length, ◌+◌, ◌-◌, ◌∙◌}
use Rattle.xml_tokenizer.specs.declared.scan.Step.TheVariants.{On}
use Rattle.xml_tokenizer.proofs.Advancing.{advances_more, advances_token, dead_breaks, token_breaks, err_same}
use Rattle.xml_tokenizer.proofs.tokenizer.Tokenizer.take_token.Goals as goal

pub returns-in-Ok-clause-ok : goal.returns-in-Ok-clause-ok
returns-in-Ok-clause-ok g c =
    advances_token g.S.TokenSink.step c.args.self.now (g.S.TokenSink.state c.args.sink.now) c.args.rest.now c.pass.new.self (g.S.TokenSink.state c.give_whole.new.sink) _ c.in-Whole.after.now c.in-Whole.ensures
    refl c.in-Ok.ensures.ok (ap (λ v. v.items) c.pass.ensures.held ∙ c.in-Ok.ensures.held) c.pass.ensures.scan
    (c.pass.ensures.count ∙ ap (λ z. z + (length c.args.rest.now - length c.in-Whole.after.now)) c.give_whole.ensures.count)
    (c.pass.ensures.start ∙ ap (λ z. z + (length c.args.rest.now - length c.in-Whole.after.now)) c.give_whole.ensures.count)

pub returns-in-Err-clause-place : goal.returns-in-Err-clause-place
returns-in-Err-clause-place g c = λ bad.
    token_breaks g.S.TokenSink.step c.args.self.now (g.S.TokenSink.state c.args.sink.now) c.args.rest.now _ _ c.in-Whole.after.now c.give_whole.ensures.start c.in-Whole.ensures
    refl (c.give_whole.ensures.bad (err_same c.give_whole.result _ c.in-Err.e _ c.in-Err.is bad))

pub returns-in_ok-hold-in-On-clause-ok : goal.returns-in_ok-hold-in-On-clause-ok
returns-in_ok-hold-in-On-clause-ok g c =
    advances_more g.S.TokenSink.step c.args.self.now (g.S.TokenSink.state c.args.sink.now) c.args.rest.now c.hold.new.self (c.in-On.ensures ∙ ap (λ z. On z) (sym c.in_ok-hold-in-On.ensures.scan)) c.in_ok-hold-in-On.ensures.held c.in_ok-hold-in-On.ensures.count c.in_ok-hold-in-On.ensures.start

pub returns-in-Dead-clause-place : goal.returns-in-Dead-clause-place
returns-in-Dead-clause-place g c = λ bad. dead_breaks g.S.TokenSink.step c.args.self.now (g.S.TokenSink.state c.args.sink.now) c.args.rest.now _ c.in-Dead.ensures
