use Rattle.std.proofs.Common.{rules}
use Rattle.xml_profile.proofs.Valued.{run_taken}
use Rattle.xml_profile.proofs.values.ValueSinkTokenSink.run.Goals as goal

pub returns-clause-took : goal.returns-clause-took
returns-clause-took c = rw (run_taken c.args.bytes.now c.args.self.now.value.items c.requires.run) (search rules)
