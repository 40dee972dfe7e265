use Rattle.xml_tokenizer.proofs.WholeScans.{scans}
use Rattle.xml_tokenizer.proofs.laws.scans.Goals as goal

pub returns : goal.returns
returns c = scans
