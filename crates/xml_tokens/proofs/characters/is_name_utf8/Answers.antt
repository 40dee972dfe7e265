use Rattle.plain_tree.specs.XmlNames.{are_name_chars, is_name}
use Rattle.xml_tokens.proofs.Texts.{decoded, undecoded}
use Rattle.xml_tokens.proofs.characters.is_name_utf8.Goals as goal

pub returns-in-Ok : goal.returns-in-Ok
unfolding is_name
returns-in-Ok c = decoded are_name_chars _ _ _ c.in-Ok.ensures.cases.0 c.in-Ok.ensures.cases.1 c.is_name_text.ensures

pub returns-in-Err : goal.returns-in-Err
unfolding is_name
returns-in-Err c = undecoded are_name_chars _ c.in-Err.ensures.cases.0
