use Rattle.xml_nodes.specs.StateOf.{state_of}
use Rattle.xml_nodes.specs.Taking.{built}
use Rattle.xml_profile.proofs.FeedLemmas.{on-ok}
use Rattle.xml_profile.proofs.RunLemmas.{run_took, run_refused}
use Rattle.xml_profile.proofs.feeding.FeedingTokenSink.run.Goals as goal

pub returns-clause-ready : goal.returns-clause-ready
returns-clause-ready g c =
    on-ok c.run.result (λ r. r.ready)
    (run_took c.run.result (state_of c.args.self.now.machine.now) (state_of c.run.new.self) (built g.B.Builder c.args.self.now.builder.now) c.args.bytes.now c.requires.ready c.run.ensures.ok)

pub returns-clause-took : goal.returns-clause-took
returns-clause-took g c =
    on-ok c.run.result (λ r. r.took)
    (run_took c.run.result (state_of c.args.self.now.machine.now) (state_of c.run.new.self) (built g.B.Builder c.args.self.now.builder.now) c.args.bytes.now c.requires.ready c.run.ensures.ok)

pub returns-clause-refused : goal.returns-clause-refused
returns-clause-refused g c = λ at e.
    run_refused (state_of c.args.self.now.machine.now) (built g.B.Builder c.args.self.now.builder.now) c.args.bytes.now at c.requires.ready (c.run.ensures.refused at e)
