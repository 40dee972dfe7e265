use Rattle.std.proofs.Common.{◌≡◌, Bool, false}
use Rattle.std.specs.Prelude.{IsTrue}
use Rattle.xml_nodes.specs.StateOf.{state_of}
use Rattle.xml_nodes.proofs.Contents.{ends_in_content, one_name}
use Rattle.xml_nodes.proofs.machine.Machine.end_content.Goals as goal

never_both : (b : Bool) → IsTrue b → b ≡ false → ⊥
never_both b holds fails = cc

pub returns-then-not-is_in_content-clause-bad : goal.returns-then-not-is_in_content-clause-bad
returns-then-not-is_in_content-clause-bad g c = λ e calls s.
    let is = ends_in_content (state_of c.args.self.now) calls s in
    never_both c.is_in_content.result (c.is_in_content.ensures.1 (is.0, one_name c.args.self.now.names.items is.1)) c.if-not-is_in_content.true
