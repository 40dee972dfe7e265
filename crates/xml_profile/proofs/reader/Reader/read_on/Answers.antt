use Rattle.std.proofs.Common.{◌≡◌, ◌∙◌, ◌++◌, refl, ap, sym, subst}
use Rattle.std.specs.Prelude.{Err}
use Rattle.xml_nodes.specs.StateOf.{state_of}
use Rattle.xml_nodes.specs.Taking.{built}
use Rattle.xml_profile.specs.Feeding.{joint}
use Rattle.xml_profile.specs.Breaks.{BreaksFrom}
use Rattle.xml_profile.specs.declared.error.XmlError.TheVariants.{Bad}
use Rattle.xml_profile.proofs.FeedLemmas.{reads_on, breaks_from, bad_inj, err_inj}
use Rattle.xml_profile.proofs.reader.Reader.read_on.Goals as goal

pub returns-in-Ok-clause-ok : goal.returns-in-Ok-clause-ok
returns-in-Ok-clause-ok g c = λ from calls fed s.
    reads_on from c.args.self.now _ (joint (state_of c.args.self.now.machine) (built g.B.Builder c.args.builder.now)) (joint (state_of c.feed_tokens.new.machine) (built g.B.Builder c.feed_tokens.new.builder))
    c.args.piece.now fed calls s refl c.in-Ok.ensures.ok refl

pub returns-in-Err-Bad-clause-broken : goal.returns-in-Err-Bad-clause-broken
returns-in-Err-Bad-clause-broken g c = λ at e from calls fed s.
    let same : c.feed_tokens.new.tokenizer.start ≡ at = bad_inj (sym c.bad.ensures ∙ err_inj c.bad.result (Bad at) e) in
    subst (λ z. BreaksFrom from (fed ++ c.args.piece.now) z) same
    (breaks_from from c.args.self.now c.args.self.now (joint (state_of c.args.self.now.machine) (built g.B.Builder c.args.builder.now))
    (joint (state_of c.args.self.now.machine) (built g.B.Builder c.args.builder.now)) c.args.piece.now fed calls s refl c.feed_tokens.new.tokenizer.start
    (c.feed_tokens.ensures.place (c.in-Err-Bad.is ∙ ap Err c.in-Err-Bad.field-0-is)))
