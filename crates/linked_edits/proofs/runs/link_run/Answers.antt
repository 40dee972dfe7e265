use Rattle.std.proofs.Common.{◌+◌, sym, ◌∙◌, arith}
use Rattle.slt_grammar.proofs.KeyedLemmas.{key_at-within}
use Rattle.linked_edits.specs.Runs.{start_of}
use Rattle.linked_edits.proofs.Clearing.{differ, is-some}
use Rattle.linked_edits.proofs.LinkingRuns.{all-right, here-stands, last-stands, linked-others, linked-spare, linking-begins, linking-next, linking-room, next-linked-there}
use Rattle.linked_edits.proofs.runs.link_run.Goals as goal

pub loop-here-init : goal.loop-here-init
loop-here-init g c = linking-begins c.args.grammar.now c.args.from c.args.to c.args.index.now c.new-steps.result c.requires.run c.requires.part

pub link_node-requires-clause-there : goal.link_node-requires-clause-there
link_node-requires-clause-there g c =
    here-stands c.args.grammar.now c.limit-limit.ensures.keyed c.args.from c.args.to c.loop-here.here c.args.index.now c.loop-here.index c.new-steps.result c.loop-here.steps c.loop-here.invariant

pub link_node-requires-clause-room : goal.link_node-requires-clause-room
link_node-requires-clause-room g c =
    linking-room c.args.grammar.now c.limit-limit.ensures.keyed c.args.from c.args.to c.loop-here.here c.args.index.now c.loop-here.index c.new-steps.result c.loop-here.steps c.loop-here.invariant c.requires.links

pub link_node-requires-clause-cells : goal.link_node-requires-clause-cells
link_node-requires-clause-cells g c = let W = c.loop-here.invariant in omega (arith, c.requires.cells, W.room)

pub following-requires : goal.following-requires
following-requires g c = let W = c.loop-here.invariant in (start_of c.args.grammar.now.rules, W.run.place + W.at, W.there)

pub unwrap-here-requires : goal.unwrap-here-requires
unwrap-here-requires g c =
    let W = c.loop-here.invariant in
    let d = differ c.number.result c.number-in-loop-here.result c.loop-here.here.number c.args.to.number c.number.ensures c.number-in-loop-here.ensures c.loop-here-test.true in
    let w = next-linked-there c.args.grammar.now c.limit-limit.ensures.keyed c.args.from c.args.to c.loop-here.here c.args.index.now c.loop-here.index c.new-steps.result c.loop-here.steps W d in
    is-some c.following.result w.0 (sym (c.following.ensures (start_of c.args.grammar.now.rules) (W.run.place + W.at) W.there) ∙ w.1)

pub loop-here-smaller : goal.loop-here-smaller
loop-here-smaller g c =
    let W = c.loop-here.invariant in
    let t = (key_at-within c.args.grammar.now.rules (start_of c.args.grammar.now.rules) (W.run.place + W.at) c.loop-here.here W.there).1 in
    omega (arith, t, W.counted, c.tick.ensures)

pub loop-here-preserved : goal.loop-here-preserved
loop-here-preserved g c =
    let W = c.loop-here.invariant in
    let J = c.link_node.ensures in
    let d = differ c.number.result c.number-in-loop-here.result c.loop-here.here.number c.args.to.number c.number.ensures c.number-in-loop-here.ensures c.loop-here-test.true in
    let f = c.following.ensures (start_of c.args.grammar.now.rules) (W.run.place + W.at) W.there ∙ c.unwrap-here.ensures in
    linking-next c.args.grammar.now c.limit-limit.ensures.keyed c.args.from c.args.to c.loop-here.here c.args.index.now c.loop-here.index c.new-steps.result c.loop-here.steps W c.unwrap-here.result c.link_node.new.index c.tick.new.self
    d f J.part J.right J.others J.cells J.spare J.spare_rules c.tick.ensures

pub link_node-requires-2-clause-there : goal.link_node-requires-2-clause-there
link_node-requires-2-clause-there g c =
    last-stands c.args.grammar.now c.limit-limit.ensures.keyed c.args.from c.args.to c.loop-here.here c.args.index.now c.loop-here.index c.new-steps.result c.loop-here.steps c.loop-here.invariant (sym c.number.ensures ∙ c.loop-here-test.false ∙ c.number-in-loop-here.ensures)

pub link_node-requires-2-clause-room : goal.link_node-requires-2-clause-room
link_node-requires-2-clause-room g c =
    linking-room c.args.grammar.now c.limit-limit.ensures.keyed c.args.from c.args.to c.loop-here.here c.args.index.now c.loop-here.index c.new-steps.result c.loop-here.steps c.loop-here.invariant c.requires.links

pub link_node-requires-2-clause-cells : goal.link_node-requires-2-clause-cells
link_node-requires-2-clause-cells g c = let W = c.loop-here.invariant in omega (arith, c.requires.cells, W.room)

pub returns-clause-right : goal.returns-clause-right
returns-clause-right g c =
    let J = c.link_node-2.ensures in
    all-right c.args.grammar.now c.limit-limit.ensures.keyed c.args.from c.args.to c.loop-here.here c.args.index.now c.loop-here.index c.new-steps.result c.loop-here.steps c.loop-here.invariant (sym c.number.ensures ∙ c.loop-here-test.false ∙ c.number-in-loop-here.ensures)
    c.link_node-2.new.index J.right J.others

pub returns-clause-others : goal.returns-clause-others
returns-clause-others g c =
    let J = c.link_node-2.ensures in
    linked-others c.args.grammar.now c.limit-limit.ensures.keyed c.args.from c.args.to c.loop-here.here c.args.index.now c.loop-here.index c.new-steps.result c.loop-here.steps c.loop-here.invariant (sym c.number.ensures ∙ c.loop-here-test.false ∙ c.number-in-loop-here.ensures)
    c.link_node-2.new.index J.right J.others

pub returns-clause-spare : goal.returns-clause-spare
returns-clause-spare g c = λ R.
    let J = c.link_node-2.ensures in
    linked-spare c.args.grammar.now c.limit-limit.ensures.keyed c.args.from c.args.to c.loop-here.here c.args.index.now c.loop-here.index c.new-steps.result c.loop-here.steps c.loop-here.invariant (sym c.number.ensures ∙ c.loop-here-test.false ∙ c.number-in-loop-here.ensures)
    c.link_node-2.new.index J.right J.others R J.spare

pub returns-clause-numbers : goal.returns-clause-numbers
returns-clause-numbers g c = let W = c.loop-here.invariant in c.link_node-2.ensures.spare_rules ∙ W.spare_rules

pub returns-clause-room : goal.returns-clause-room
returns-clause-room g c = let W = c.loop-here.invariant in omega (arith, W.room, c.link_node-2.ensures.cells)
