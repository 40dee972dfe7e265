use Rattle.std.proofs.Common.{arith}
use Rattle.digram_index.proofs.BuildLemmas.{building-begins, building-next, before-few}
use Rattle.digram_index.proofs.building.link_all.Goals as goal

pub loop-rule-init : goal.loop-rule-init
loop-rule-init c = building-begins c.args.grammar.now.rules c.args.index.now c.requires.rules c.requires.free

pub loop-rule-preserved : goal.loop-rule-preserved
loop-rule-preserved c = building-next c.args.grammar.now c.limit-limit.ensures.keyed c.loop-rule.rule c.args.index.now c.loop-rule.index c.link_nodes.new.index c.loop-rule.invariant
    c.in_ok-link_nodes.ensures.linked c.link_nodes.ensures.others c.in_ok-link_nodes.ensures.only c.link_nodes.ensures.rules c.link_nodes.ensures.room c.link_nodes.ensures.spare.0 c.link_nodes.ensures.marks

pub returns-in_err-link_nodes-clause-succeeds : goal.returns-in_err-link_nodes-clause-succeeds
returns-in_err-link_nodes-clause-succeeds c = λ h l.
    let s = c.loop-rule.invariant.spare in
    let r = c.loop-rule.invariant.room in
    let b = before-few c.args.grammar.now.rules c.loop-rule.rule in
    let z = c.in_err-link_nodes.ensures.succeeds (omega arith) (omega arith) in
    absurd (cc)
