use Rattle.std.proofs.Common.{sym, ◌∙◌, arith, ap}
use Rattle.std.specs.Prelude.{◌&&◌}
use Rattle.xml_tokens.specs.NameBytes.{goes_name}
use Rattle.xml_tokens.proofs.Lists.{tail_of}
use Rattle.xml_tokens.proofs.Texts.{name_whole, no_name}
use Rattle.xml_tokens.proofs.characters.is_name.Goals as goal

pub returns-in-empty : goal.returns-in-empty
returns-in-empty c = no_name _ (omega arith)

pub returns-then-is_low_start : goal.returns-then-is_low_start
returns-then-is_low_start c =
    c.are_name_chars.ensures ∙ sym (name_whole c.args.bytes.now (omega arith) (omega arith) ∙ ap (λ z. z && goes_name (tail_of c.args.bytes.now)) (sym c.is_low_start.ensures ∙ c.if-is_low_start.true))
