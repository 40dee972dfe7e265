use Rattle.std.proofs.Common.{sym, ◌∙◌}
use Rattle.xml_tokenizer.proofs.RunLaws.{high_begins}
use Rattle.xml_tokenizer.proofs.runs.high_char_in.Goals as goal

pub returns-else-c-lt128-clause-run : goal.returns-else-c-lt128-clause-run
returns-else-c-lt128-clause-run c = high_begins c.args.bytes.now c.high_len-n.result c.in-Some.c (sym c.read_char.ensures ∙ c.in-Some.is) c.if-c-lt128.false
