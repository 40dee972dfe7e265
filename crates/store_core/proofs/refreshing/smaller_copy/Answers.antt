use Rattle.std.proofs.Common.{ap, ◌∙◌, subst, sym, arith}
use Rattle.slt_grammar.specs.Digrams.{IsSettled}
use Rattle.slt_grammar.specs.Grammars.{size, value}
use Rattle.slt_grammar.specs.declared.rules.Rule.{Rule}
use Rattle.std.specs.Prelude.{List}
use Rattle.store_core.proofs.refreshing.smaller_copy.Goals as goal

pub returns-then-size-clause-settles : goal.returns-then-size-clause-settles
returns-then-size-clause-settles c =
    let deep = c.in_ok-settle_deeply.ensures in
    let compact = c.in_ok-compact.ensures in
    record {
      settled = subst (λ (G : List Rule). IsSettled G c.args.rank) (sym compact) deep.settled;
      same = ap value compact ∙ deep.value ∙ ap value c.in_ok-deep.ensures;
      nodes = omega (arith, ap size compact, c.size.ensures, c.size-2.ensures, c.if-size.true);
    }

pub returns-clause-settles : goal.returns-clause-settles
returns-clause-settles c = record {
  settled = subst (λ (G : List Rule). IsSettled G c.args.rank) (sym c.in_ok-same.ensures) c.requires.settled;
  same = ap value c.in_ok-same.ensures;
  nodes = omega (arith, ap size c.in_ok-same.ensures);
}
