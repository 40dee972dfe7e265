use Rattle.std.proofs.Common.{arith}
use Rattle.digram_index.proofs.BuildLemmas.{clearing-begins, clearing-next, clearing-ends}
use Rattle.digram_index.proofs.building.unlink_all.Goals as goal

pub loop-rule-init : goal.loop-rule-init
loop-rule-init c = clearing-begins c.args.grammar.now c.args.index.now c.requires

pub loop-rule-preserved : goal.loop-rule-preserved
loop-rule-preserved c = clearing-next c.args.grammar.now.rules c.loop-rule.rule c.args.index.now c.loop-rule.index c.unlink_nodes.new.index c.loop-rule.invariant
    c.unlink_nodes.ensures.free c.unlink_nodes.ensures.others c.unlink_nodes.ensures.rules c.unlink_nodes.ensures.room c.unlink_nodes.ensures.spares c.unlink_nodes.ensures.marks

pub returns-clause-free : goal.returns-clause-free
returns-clause-free c = clearing-ends c.args.grammar.now.rules c.loop-rule.rule c.args.index.now c.loop-rule.index c.loop-rule.invariant (omega arith)
