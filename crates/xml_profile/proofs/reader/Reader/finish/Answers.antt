use Rattle.std.proofs.Common.{◌≡◌, ◌∙◌, refl, ap, sym, subst}
use Rattle.std.specs.Prelude.{Some}
use Rattle.xml_nodes.specs.Place.{IsPlace}
use Rattle.xml_profile.specs.declared.error.XmlError.TheVariants.{Bad}
use Rattle.xml_profile.proofs.FeedLemmas.{bad_inj, err_inj}
use Rattle.xml_profile.proofs.Finishing.{failed_here, unfailed, ends_at}
use Rattle.xml_profile.proofs.reader.Reader.finish.Goals as goal

pub returns-in-Some-clause-bad : goal.returns-in-Some-clause-bad
returns-in-Some-clause-bad c = λ at e calls fed f.
    let same : c.in-Some.e ≡ Bad at = cc in
    failed_here c.args.self calls fed at (c.in-Some.is ∙ ap Some same) f

pub returns-clause-bad : goal.returns-clause-bad
returns-clause-bad c = λ at e calls fed f.
    let s = unfailed c.args.self calls fed c.in_default.is f in
    let same : c.args.self.tokenizer.start ≡ at = bad_inj (sym c.bad.ensures ∙ err_inj c.bad.result (Bad at) e) in
    record {
      none = c.if-is_done.ensures.broken refl calls fed s;
      place = subst (λ z. IsPlace fed z) same (ends_at c.args.self calls fed s);
    }
