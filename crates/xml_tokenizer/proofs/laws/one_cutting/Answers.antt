use Rattle.xml_tokenizer.proofs.Cuts.{one_cutting}
use Rattle.xml_tokenizer.proofs.laws.one_cutting.Goals as goal

pub returns : goal.returns
returns c = one_cutting
