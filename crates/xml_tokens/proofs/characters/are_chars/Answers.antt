use Rattle.std.proofs.Common.{ap, sym, ◌∙◌, arith}
use Rattle.std.proofs.lemmas.Bool.Decides.{nat_tests}
use Rattle.plain_tree.specs.XmlNames.{are_chars, is_char}
use Rattle.xml_tokens.proofs.Lists.{turn, none_of}
use Rattle.xml_tokens.proofs.Texts.{chars_byte, chars_none}
use Rattle.xml_tokens.proofs.characters.are_chars.Goals as goal

pub loop-rest-preserved : goal.loop-rest-preserved
loop-rest-preserved c = turn are_chars is_char chars_byte _ _ c.in-len1-up.len_at_least (omega arith) (grind (arith, nat_tests)) c.loop-rest.invariant

pub returns : goal.returns
returns c = sym (sym c.loop-rest.invariant ∙ ap are_chars (none_of c.loop-rest.rest.now c.in_default.len_below) ∙ chars_none)
