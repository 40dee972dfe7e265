use Rattle.std.proofs.Common.{length}
use Rattle.grammar_file.proofs.BodyReading.{IsReadingBody}
use Rattle.grammar_file.proofs.rules.read_body.Given as goal

abbrev pub invariant-loop-missing : goal.invariant-loop-missing
invariant-loop-missing l = IsReadingBody l.names l.before l.fn.scan l.body l.missing l.scan

abbrev pub decreases-loop-missing : goal.decreases-loop-missing
decreases-loop-missing l = length l.scan
