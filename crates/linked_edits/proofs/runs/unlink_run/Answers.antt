use Rattle.std.proofs.Common.{◌+◌, sym, ◌∙◌, arith}
use Rattle.slt_grammar.proofs.KeyedLemmas.{key_at-within}
use Rattle.linked_edits.specs.Runs.{start_of}
use Rattle.linked_edits.proofs.Clearing.{all-free, all-others, clearing-begins, clearing-next, differ, is-some, next-there}
use Rattle.linked_edits.proofs.runs.unlink_run.Goals as goal

pub loop-here-init : goal.loop-here-init
loop-here-init g c = clearing-begins c.args.grammar.now.rules c.args.from c.args.to c.args.index.now c.new-steps.result c.requires.run

pub following-requires : goal.following-requires
following-requires g c = let W = c.loop-here.invariant in (start_of c.args.grammar.now.rules, W.run.place + W.at, W.there)

pub unwrap-here-requires : goal.unwrap-here-requires
unwrap-here-requires g c =
    let W = c.loop-here.invariant in
    let d = differ c.number.result c.number-in-loop-here.result c.loop-here.here.number c.args.to.number c.number.ensures c.number-in-loop-here.ensures c.loop-here-test.true in
    let w = next-there c.args.grammar.now c.limit-limit.ensures.keyed c.args.from c.args.to c.loop-here.here c.args.index.now c.loop-here.index c.new-steps.result c.loop-here.steps W d in
    is-some c.following.result w.0 (sym (c.following.ensures (start_of c.args.grammar.now.rules) (W.run.place + W.at) W.there) ∙ w.1)

pub loop-here-smaller : goal.loop-here-smaller
loop-here-smaller g c =
    let W = c.loop-here.invariant in
    let t = (key_at-within c.args.grammar.now.rules (start_of c.args.grammar.now.rules) (W.run.place + W.at) c.loop-here.here W.there).1 in
    omega (arith, t, W.counted, c.tick.ensures)

pub loop-here-preserved : goal.loop-here-preserved
loop-here-preserved g c =
    let W = c.loop-here.invariant in
    let U = c.unlink_node.ensures in
    let d = differ c.number.result c.number-in-loop-here.result c.loop-here.here.number c.args.to.number c.number.ensures c.number-in-loop-here.ensures c.loop-here-test.true in
    let f = c.following.ensures (start_of c.args.grammar.now.rules) (W.run.place + W.at) W.there ∙ c.unwrap-here.ensures in
    clearing-next c.args.grammar.now c.limit-limit.ensures.keyed c.args.from c.args.to c.loop-here.here c.args.index.now c.loop-here.index c.new-steps.result c.loop-here.steps W c.unwrap-here.result c.unlink_node.new.index c.tick.new.self
    d f U.free U.others U.rules U.room U.spares.0 U.spares.1 c.tick.ensures

pub returns-clause-free : goal.returns-clause-free
returns-clause-free g c =
    let W = c.loop-here.invariant in
    let U = c.unlink_node-2.ensures in
    all-free c.args.grammar.now c.limit-limit.ensures.keyed c.args.from c.args.to c.loop-here.here c.args.index.now c.loop-here.index c.new-steps.result c.loop-here.steps W (sym c.number.ensures ∙ c.loop-here-test.false ∙ c.number-in-loop-here.ensures) c.unlink_node-2.new.index U.free U.others

pub returns-clause-others : goal.returns-clause-others
returns-clause-others g c =
    let W = c.loop-here.invariant in
    let U = c.unlink_node-2.ensures in
    all-others c.args.grammar.now c.limit-limit.ensures.keyed c.args.from c.args.to c.loop-here.here c.args.index.now c.loop-here.index c.new-steps.result c.loop-here.steps W (sym c.number.ensures ∙ c.loop-here-test.false ∙ c.number-in-loop-here.ensures) c.unlink_node-2.new.index U.free U.others
