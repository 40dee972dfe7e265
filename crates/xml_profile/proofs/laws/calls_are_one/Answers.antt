use Rattle.xml_profile.proofs.OneFeeding.{calls-one}
use Rattle.xml_profile.proofs.laws.calls_are_one.Goals as goal

pub returns : goal.returns
returns c = calls-one
