use Rattle.std.specs.List.{list_all}
use Rattle.plain_tree.specs.XmlNames.{is_name_char}
use Rattle.xml_tokens.proofs.Texts.{decoded, undecoded}
use Rattle.xml_tokens.proofs.characters.are_name_chars_utf8.Goals as goal

pub returns-in-Ok : goal.returns-in-Ok
returns-in-Ok c = decoded (λ z. list_all is_name_char z) _ _ _ c.in-Ok.ensures.cases.0 c.in-Ok.ensures.cases.1 c.are_all_name_chars.ensures

pub returns-in-Err : goal.returns-in-Err
returns-in-Err c = undecoded (λ z. list_all is_name_char z) _ c.in-Err.ensures.cases.0
