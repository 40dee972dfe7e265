use Rattle.xml_tokenizer.proofs.RunLaws.{characters_are_tokens}
use Rattle.xml_tokenizer.proofs.laws.characters_are_tokens.Goals as goal

pub returns : goal.returns
returns c = characters_are_tokens
