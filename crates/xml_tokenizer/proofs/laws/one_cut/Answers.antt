use Rattle.xml_tokenizer.proofs.ScanLaws.{one_cut}
use Rattle.xml_tokenizer.proofs.laws.one_cut.Goals as goal

pub returns : goal.returns
returns c = one_cut
