use Rattle.std.proofs.Common.{ap, sym, ◌∙◌, arith}
use Rattle.std.proofs.lemmas.Bool.Decides.{nat_tests}
use Rattle.xml_tokens.specs.NameBytes.{goes_name}
use Rattle.plain_tree.specs.XmlNames.{is_name_char}
use Rattle.xml_tokens.proofs.Lists.{turn, none_of}
use Rattle.xml_tokens.proofs.Texts.{name_byte, name_none}
use Rattle.xml_tokens.proofs.characters.are_name_chars.Goals as goal

pub loop-rest-preserved : goal.loop-rest-preserved
loop-rest-preserved c = turn goes_name is_name_char name_byte _ _ c.in-len1-up.len_at_least (omega arith) (grind (arith, nat_tests)) c.loop-rest.invariant

pub returns : goal.returns
returns c = sym (sym c.loop-rest.invariant ∙ ap goes_name (none_of c.loop-rest.rest.now c.in_default.len_below) ∙ name_none)
