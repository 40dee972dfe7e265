use Rattle.std.proofs.Common.{◌∙◌, arith}
use Rattle.start_fronts.proofs.Called.{keeps-calling}
use Rattle.start_fronts.specs.Before.{copied_keys}
use Rattle.slt_grammar.specs.Keyed.{nodes_at}
use Rattle.digram_index.proofs.CalledIndex.{called, called-index, part}
use Rattle.digram_index.proofs.Marks.{keeps-unlinked, unmarked-body}
use Rattle.digram_index.proofs.Numbered.{same-many}
use Rattle.digram_index.proofs.calling.call_linked.Goals as goal

pub unlink_body-requires-clause-begins : goal.unlink_body-requires-clause-begins
unlink_body-requires-clause-begins c = (c.args.arguments.now, c.requires.begins)

pub call_at-call-requires-clause-begins : goal.call_at-call-requires-clause-begins
call_at-call-requires-clause-begins c = rw c.as_slice.ensures.value c.requires.begins

pub call_at-call-requires-clause-room : goal.call_at-call-requires-clause-room
call_at-call-requires-clause-room c = rw c.as_slice.ensures.value c.requires.nodes

pub link_call-requires-clause-part : goal.link_call-requires-clause-part
link_call-requires-clause-part c =
    let B = c.requires.begins in
    let A = rw c.as_slice.ensures.value at c.call_at-call.ensures in
    let U = c.unlink_body.ensures in
    part c.args.grammar.now c.call_at-call.new.self c.limit-before.ensures.keyed c.limit-after.ensures.keyed c.args.at c.args.rule c.args.arguments.now B c.call_at-call.result (A.rules B) (A.inverse B)
    c.args.index.now c.unlink_body.new.index c.requires.index (U.free c.args.arguments.now B) (U.others c.args.arguments.now B) U.stays U.rules

pub link_call-requires-clause-there : goal.link_call-requires-clause-there
link_call-requires-clause-there c =
    let B = c.requires.begins in
    let A = rw c.as_slice.ensures.value at c.call_at-call.ensures in
    (called c.args.grammar.now c.call_at-call.new.self c.limit-before.ensures.keyed c.limit-after.ensures.keyed c.args.at c.args.rule c.args.arguments.now B c.call_at-call.result (A.rules B) (A.inverse B)).here

pub link_call-requires-clause-room : goal.link_call-requires-clause-room
link_call-requires-clause-room c = omega (arith, c.requires.links, c.unlink_body.ensures.spares.0)

pub link_call-requires-clause-cells : goal.link_call-requires-clause-cells
link_call-requires-clause-cells c = omega (arith, c.requires.cells, c.call_at-call.ensures.limit, c.unlink_body.ensures.room)

pub returns-clause-rules : goal.returns-clause-rules
returns-clause-rules c = rw c.as_slice.ensures.value at c.call_at-call.ensures.rules

pub returns-clause-index : goal.returns-clause-index
returns-clause-index c =
    let B = c.requires.begins in
    let A = rw c.as_slice.ensures.value at c.call_at-call.ensures in
    let U = c.unlink_body.ensures in
    let N = c.link_call.ensures in
    let C = called c.args.grammar.now c.call_at-call.new.self c.limit-before.ensures.keyed c.limit-after.ensures.keyed c.args.at c.args.rule c.args.arguments.now B c.call_at-call.result (A.rules B) (A.inverse B) in
    called-index c.args.grammar.now c.call_at-call.new.self c.limit-before.ensures.keyed c.limit-after.ensures.keyed c.args.at c.args.rule c.args.arguments.now B c.call_at-call.result (A.rules B) (A.inverse B)
    c.args.index.now c.unlink_body.new.index c.requires.index (U.free c.args.arguments.now B) (U.others c.args.arguments.now B) U.stays U.rules
    c.link_call.new.index N.part N.call (N.arguments C.here) N.kept

pub returns-clause-links : goal.returns-clause-links
returns-clause-links c = omega (arith, c.link_call.ensures.spare, c.unlink_body.ensures.spares.0)

pub returns-clause-numbers : goal.returns-clause-numbers
returns-clause-numbers c = c.link_call.ensures.spare_rules ∙ c.unlink_body.ensures.spares.1

pub returns-clause-cells : goal.returns-clause-cells
returns-clause-cells c = omega (arith, c.link_call.ensures.cells, c.unlink_body.ensures.room)

pub returns-clause-marks : goal.returns-clause-marks
returns-clause-marks c =
    let B = c.requires.begins in
    let A = rw c.as_slice.ensures.value at c.call_at-call.ensures in
    let U = c.unlink_body.ensures in
    keeps-unlinked (copied_keys (nodes_at c.args.grammar.now.rules c.args.rule) B.keys) c.args.grammar.now.rules c.call_at-call.new.self.rules c.args.index.now c.unlink_body.new.index c.link_call.new.index
    (keeps-calling c.args.grammar.now c.call_at-call.new.self c.limit-before.ensures.keyed c.limit-after.ensures.keyed c.args.at c.args.rule c.args.arguments.now c.call_at-call.result B (A.rules B))
    U.marks c.link_call.ensures.marks
    (unmarked-body c.args.grammar.now.rules c.args.at c.args.rule c.args.arguments.now B c.unlink_body.new.index (U.free c.args.arguments.now B) c.is_marked-marked.ensures.linked)
    (same-many c.args.grammar.now.rules c.call_at-call.new.self.rules c.args.at B.here _ (A.rules B)) c.call_at-call.ensures.values
