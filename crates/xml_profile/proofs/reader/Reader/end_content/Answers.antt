use Rattle.std.proofs.Common.{◌∙◌, refl, ap}
use Rattle.std.specs.Prelude.{Err}
use Rattle.xml_profile.proofs.Fragments.{ends_content, goes_further}
use Rattle.xml_profile.proofs.reader.Reader.end_content.Goals as goal

pub returns-in-Ok-clause-ended : goal.returns-in-Ok-clause-ended
returns-in-Ok-clause-ended g c = λ done calls fed s.
    ends_content c.args.self.now calls fed s _ _ (c.if-not-is_whole.ensures.whole refl s.tokens fed s.cut) c.in-Ok.ensures.ends c.in-Ok.ensures.log

pub returns-in-Err-Misplaced-clause-bad : goal.returns-in-Err-Misplaced-clause-bad
returns-in-Err-Misplaced-clause-bad g c = λ done calls fed s.
    goes_further c.args.self.now calls fed s (c.if-not-is_whole.ensures.whole refl s.tokens fed s.cut)
    (c.end_content.ensures.bad (c.in-Err-Misplaced.is ∙ ap Err c.in-Err-Misplaced.field-0-is))
