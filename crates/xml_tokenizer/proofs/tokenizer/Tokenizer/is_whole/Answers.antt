use Rattle.std.proofs.Common.{◌∙◌}
use Rattle.xml_tokenizer.proofs.Reading.{not_whole}
use Rattle.xml_tokenizer.proofs.tokenizer.Tokenizer.is_whole.Goals as goal

pub returns-clause-broken : goal.returns-clause-broken
returns-clause-broken c = λ e tokens others fed s f. not_whole _ _ _ _ tokens fed s.read others (λ n. c.is_none.ensures.some e (c.as_slice.ensures.value ∙ n)) f
