use Rattle.xml_tokens.proofs.Finding.{reference_found, reference_missing}
use Rattle.xml_tokens.proofs.references.leading_reference.Goals as goal

pub returns-in-Some-clause-found : goal.returns-in-Some-clause-found
returns-in-Some-clause-found c = reference_found _ _ _ c.skip_to-left.ensures.left c.in-len1-up.len_at_least c.referred.ensures c.in-Some.c c.in-Some.is

pub returns-in-None-clause-found : goal.returns-in-None-clause-found
returns-in-None-clause-found c = reference_missing _ _ _ c.skip_to-left.ensures.left c.in-len1-up.len_at_least c.referred.ensures c.in-None.is
