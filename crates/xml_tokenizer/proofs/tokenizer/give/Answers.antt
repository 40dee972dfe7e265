use Rattle.std.proofs.Common.{Err, ap, subst, ◌∙◌}
use Rattle.std.specs.Prelude.{IfSome}
use Rattle.xml_tokens.specs.Tokens.{IsToken}
use Rattle.xml_tokens.specs.SeenTokens.{token_of}
use Rattle.xml_tokenizer.proofs.Givings.{token_refused}
use Rattle.xml_tokenizer.proofs.tokenizer.give.Goals as goal

pub returns-in-Err-Here-clause-bad : goal.returns-in-Err-Here-clause-bad
returns-in-Err-Here-clause-bad g c = λ bad t i.
    let spelled : IsToken (token_of c.in-Some.found) c.args.text.now = subst (λ o. IfSome o (λ f. IsToken (token_of f) c.args.text.now)) c.in-Some.is c.in_ok-found.ensures.found in
    token_refused g.S.TokenSink.step (g.S.TokenSink.state c.args.sink.now) c.args.text.now (token_of c.in-Some.found) spelled (c.token.ensures.refused (c.in-Err-Here.is ∙ ap Err c.in-Err-Here.field-0-is)) t i
