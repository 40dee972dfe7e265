use Rattle.std.proofs.Common.{◌≡◌, ◌<◌, ap, ◌+◌, List, length, sym, subst, arith}
use Rattle.slt_grammar.specs.Grammars.{size}
use Rattle.slt_grammar.specs.declared.rules.Rule.{Rule}
use Rattle.border_repair.specs.Folding.{AreFoldedBefore}
use Rattle.border_repair.proofs.FoldedRules.{none-folded, folded-more, all-folded}
use Rattle.border_repair.proofs.SizeLemmas.{size-push, size-more, size-take}
use Rattle.border_repair.proofs.folding.fold_all.Goals as goal

pub rules-init : goal.rules-init
rules-init c = record {
  folded = none-folded c.args.digram c.args.rules.now c.new-folded.result c.new-folded.ensures;
  few = omega (arith, ap size c.new-folded.ensures);
}

pub rules-preserved : goal.rules-preserved
rules-preserved c =
    let R : Rule = record { rank = c.rank_of.result; body = c.in_ok-body.body } in
    let there : c.rules.rule < length c.args.rules.now = omega arith in
    record {
      folded = subst (λ (H : List Rule). AreFoldedBefore c.args.digram c.args.rules.now (c.rules.rule + 1) H) (sym c.in_ok-push.ensures.ok)
          (folded-more c.args.digram c.args.rules.now c.rules.rule c.rules.folded R c.rules.invariant.folded c.rank_of.ensures c.in_ok-body.ensures.first c.in_ok-body.ensures.others);
      few = omega (arith, ap size c.in_ok-push.ensures.ok, size-push c.rules.folded R, c.rules.invariant.few, size-more c.args.rules.now c.rules.rule there, c.in_ok-body.ensures.size);
    }

pub returns-clause-folded : goal.returns-clause-folded
returns-clause-folded c =
    let end : c.rules.rule ≡ length c.args.rules.now = omega arith in
    all-folded c.args.digram c.args.rules.now c.rules.folded c.requires.some (subst (λ n. AreFoldedBefore c.args.digram c.args.rules.now n c.rules.folded) end c.rules.invariant.folded)

pub returns-clause-size : goal.returns-clause-size
returns-clause-size c = omega (arith, c.rules.invariant.few, size-take c.args.rules.now c.rules.rule)
