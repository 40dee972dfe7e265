use Rattle.std.proofs.Common.{refl}
use Rattle.xml_profile.proofs.FeedLemmas.{never_both}
use Rattle.xml_profile.proofs.Finishing.{ends_document, ends_elsewhere}
use Rattle.xml_profile.proofs.reader.Reader.is_done.Goals as goal

pub returns-then-is_whole-clause-done : goal.returns-then-is_whole-clause-done
returns-then-is_whole-clause-done c = λ holds calls fed s.
    ends_document c.args.self.now calls fed s (c.if-is_whole.ensures.whole refl s.tokens fed s.cut) (c.may_end.ensures.0 holds)

pub returns-then-is_whole-clause-broken : goal.returns-then-is_whole-clause-broken
returns-then-is_whole-clause-broken c = λ fails calls fed s t p.
    ends_elsewhere c.args.self.now calls fed s (c.if-is_whole.ensures.whole refl s.tokens fed s.cut) (λ last. never_both c.may_end.result (c.may_end.ensures.1 last) fails) t p
