use Rattle.std.proofs.Common.{ap, arith}
use Rattle.slt_grammar.specs.Bodies.{real_nodes}
use Rattle.rule_pruning.proofs.SavingLemmas.{body-few, real-cons}
use Rattle.rule_pruning.proofs.savings.body_size.Goals as goal

pub overflow_add-size : goal.overflow_add-size
overflow_add-size g c =
    omega (
      arith,
      c.loop-label.invariant,
      ap real_nodes c.in-Some.ensures.label,
      real-cons c.in-Some.label c.next.new.self,
      c.node_count-size.ensures,
      body-few c.args.grammar.now c.limit-limit.ensures.keyed c.args.rule c.requires.there,
    )

pub returns-clause-few : goal.returns-clause-few
returns-clause-few g c = omega (arith, c.loop-label.invariant, body-few c.args.grammar.now c.limit-limit.ensures.keyed c.args.rule c.requires.there)
