use Rattle.xml_profile.proofs.OneFeeding.{calls-begin}
use Rattle.xml_profile.proofs.laws.calls_begin.Goals as goal

pub returns : goal.returns
returns c = calls-begin
