use Rattle.fcns_encoding.proofs.LabelLemmas.{one-rule-stands}
use Rattle.fcns_encoding.proofs.laws.one_rule_stands_for_its_document.Goals as goal

pub returns : goal.returns
returns c = one-rule-stands
