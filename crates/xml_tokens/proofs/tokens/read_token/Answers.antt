use Rattle.xml_tokens.proofs.Parsed.{all_found, all_missing}
use Rattle.xml_tokens.proofs.tokens.read_token.Goals as goal

pub returns-clause-found : goal.returns-clause-found
returns-clause-found c = all_found c.token_in.result c.args.text.now c.token_in.ensures

pub returns-clause-none : goal.returns-clause-none
returns-clause-none c = all_missing c.token_in.result c.args.text.now c.token_in.ensures
