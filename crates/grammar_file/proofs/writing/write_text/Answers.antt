use Rattle.std.proofs.Common.{length}
use Rattle.grammar_file.specs.Numbers.{number_bytes}
use Rattle.grammar_file.proofs.Putting.{puts_then}
use Rattle.grammar_file.proofs.writing.write_text.Goals as goal

pub returns-clause-puts : goal.returns-clause-puts
returns-clause-puts g c = puts_then _ _ _ c.bytes.result (number_bytes (length c.args.text.now)) c.args.text.now c.in_ok-number.ensures c.bytes.ensures
