use Rattle.std.proofs.Common.{◌∙◌, arith}
use Rattle.slt_grammar.specs.Keyed.{nodes_at}
use Rattle.slt_grammar.proofs.KeyedLemmas.{key_at-within}
use Rattle.path_isolation.proofs.Lengths.{all-passed, body-fits}
use Rattle.path_isolation.proofs.measuring.body_length.Goals as goal

pub loop-next-init : goal.loop-next-init
loop-next-init g c = record { there = c.root.ensures; few = omega arith; steps = omega arith }

pub next_in_preorder-next-requires : goal.next_in_preorder-next-requires
next_in_preorder-next-requires g c = (c.args.rule, c.loop-next.nodes, c.loop-next.invariant.there ∙ c.in-Some.is)

pub overflow_add-nodes : goal.overflow_add-nodes
overflow_add-nodes g c =
    omega (
      arith,
      (key_at-within c.args.grammar.now.rules c.args.rule c.loop-next.nodes c.in-Some.key (c.loop-next.invariant.there ∙ c.in-Some.is)).1,
      body-fits c.args.grammar.now.rules c.args.rule c.requires,
      c.limit-limit.ensures.keyed.few,
    )

pub loop-next-smaller : goal.loop-next-smaller
loop-next-smaller g c = omega (arith, (key_at-within c.args.grammar.now.rules c.args.rule c.loop-next.nodes c.in-Some.key (c.loop-next.invariant.there ∙ c.in-Some.is)).1)

pub loop-next-preserved : goal.loop-next-preserved
loop-next-preserved g c = record {
  there = c.next_in_preorder-next.ensures.next c.args.rule c.loop-next.nodes (c.loop-next.invariant.there ∙ c.in-Some.is);
  few = omega (arith, (key_at-within c.args.grammar.now.rules c.args.rule c.loop-next.nodes c.in-Some.key (c.loop-next.invariant.there ∙ c.in-Some.is)).1);
  steps = omega (arith, c.next_in_preorder-next.ensures.step, c.loop-next.invariant.steps);
}

pub returns-clause-value : goal.returns-clause-value
returns-clause-value g c = omega (arith, c.loop-next.invariant.few, all-passed (nodes_at c.args.grammar.now.rules c.args.rule) c.loop-next.nodes (c.loop-next.invariant.there ∙ c.in_default.is))
