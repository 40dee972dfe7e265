use Rattle.std.proofs.Common.{◌≡◌, ◌∙◌, ap, subst}
use Rattle.std.specs.Prelude.{Err}
use Rattle.xml_nodes.specs.StateOf.{state_of}
use Rattle.xml_nodes.specs.Taking.{RefusesRun}
use Rattle.xml_nodes.proofs.RunLemmas.{run_is, run_refused}
use Rattle.xml_nodes.proofs.machine.Machine.inner_run.Goals as goal

pub returns-in-Ok-clause-ok : goal.returns-in-Ok-clause-ok
returns-in-Ok-clause-ok c = run_is (state_of c.args.self.now) c.args.text.now c.requires.inside c.requires.run ∙ c.in-Ok.ensures.ok

pub returns-in-Err-Misplaced-clause-refused : goal.returns-in-Err-Misplaced-clause-refused
returns-in-Err-Misplaced-clause-refused c = λ at e.
    let refused = run_refused (state_of c.args.self.now) c.args.text.now c.requires.inside c.requires.run
    (c.add_run.ensures.bad (c.in-Err-Misplaced.is ∙ ap Err c.in-Err-Misplaced.field-0-is)) in
    let same : 0 ≡ at = cc in
    subst (λ z. RefusesRun (state_of c.args.self.now) c.args.text.now z) same refused
