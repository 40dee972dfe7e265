use Rattle.std.proofs.Common.{◌∙◌, ◌++◌, ap}
use Rattle.std.specs.Prelude.{Err}
use Rattle.xml_nodes.specs.Machine.{start}
use Rattle.xml_profile.proofs.Finishing.{fails, unfailed}
use Rattle.xml_profile.proofs.reader.Reader.feed.Goals as goal

pub returns-in-Err-clause-fed : goal.returns-in-Err-clause-fed
returns-in-Err-clause-fed g c = λ calls fed f.
    let s = unfailed c.args.self.now calls fed c.in_default.is f in
    fails c.fail.new.self c.in-Err.e _ _ calls (fed ++ c.args.piece.now) c.fail.ensures.failed
    (λ at e. c.read_on.ensures.broken at (c.in-Err.is ∙ ap Err e) start calls fed s)
