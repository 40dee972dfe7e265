use Rattle.fcns_encoding.proofs.LabelLemmas.{one-rule-means}
use Rattle.fcns_encoding.proofs.laws.one_rule_means_its_term.Goals as goal

pub returns : goal.returns
returns c = one-rule-means
