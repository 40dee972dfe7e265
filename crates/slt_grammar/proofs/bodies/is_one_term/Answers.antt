use Rattle.std.proofs.Common.{arith}
use Rattle.slt_grammar.specs.Algebras.{ranks_of}
use Rattle.slt_grammar.proofs.Scans.{none_left, too_many, kept, arity-small}
use Rattle.slt_grammar.proofs.bodies.is_one_term.Goals as goal
use Rattle.slt_grammar.proofs.bodies.is_one_term.Goals.{then-open-eq0-via-then-open-eq0, then-open-eq0-via-else-open-eq0+then-open-body}

pub overflow_add-open : goal.overflow_add-open
overflow_add-open c = omega (arith, c.arity_of.ensures, arity-small (ranks_of c.args.rules.now) c.args.rule c.loop-i.i c.args.body.now c.requires.earlier c.requires.small)

pub returns-then-open-eq0 : goal.returns-then-open-eq0
returns-then-open-eq0 c = (
  λ f. cc,
  λ t. absurd (elim c.then-open-eq0.branch [
    | then-open-eq0-via-then-open-eq0 w ↦ none_left _ _ _ _ w.if-open-eq0.true c.loop-i-test.true (c.loop-i.invariant.rest.1 t)
    | then-open-eq0-via-else-open-eq0+then-open-body w ↦ too_many _ _ _ _ w.if-open-body.true (c.loop-i.invariant.rest.1 t)
  ]),
)

pub loop-i-preserved : goal.loop-i-preserved
loop-i-preserved c = record {
  rest = kept _ _ _ _ _ _ _ c.if-open-eq0.false c.loop-i-test.true c.arity_of.ensures c.loop-i.invariant.rest;
  few = omega (arith, c.arity_of.ensures, arity-small (ranks_of c.args.rules.now) c.args.rule c.loop-i.i c.args.body.now c.requires.earlier c.requires.small);
}
