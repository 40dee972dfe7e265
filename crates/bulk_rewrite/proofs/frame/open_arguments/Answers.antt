use Rattle.std.proofs.Common.{◌≡◌, suc, ◌-◌, ◌∙◌, ◌++◌, ◌∷◌, length, get_or, drop, sym, ap, arith, subst, reverse}
use Rattle.std.proofs.Math.Seq.{drop-cons}
use Rattle.std.proofs.lemmas.List.{drop_all}
use Rattle.rule_runs.proofs.Lists.{reverse-push}
use Rattle.bulk_rewrite.proofs.frame.open_arguments.Goals as goal

pub arguments-init : goal.arguments-init
arguments-init g c = record {
  within = omega arith;
  opened = ap (λ xs. xs ++ reverse c.args.opened.now.items) (sym (drop_all (length c.args.handed.now) c.args.handed.now (omega arith)));
}

pub arguments-preserved : goal.arguments-preserved
arguments-preserved g c =
    let left = c.arguments.left - 1 in
    let e : suc left ≡ c.arguments.left = omega arith in
    let d = c.in_ok-copy.field-0 in
    let at : d ≡ get_or c.args.handed.now left d = subst (λ x. x ≡ get_or c.args.handed.now left x) (sym c.in_ok-copy.ensures) c.index-handed-left.is in
    record {
      within = omega arith;
      opened = ap reverse c.in_ok-push.ensures.items ∙ reverse-push c.arguments.opened.items d ∙ ap (λ xs. d ∷ xs) c.arguments.invariant.opened
          ∙ ap (λ x. x ∷ (drop c.arguments.left c.args.handed.now ++ reverse c.args.opened.now.items)) at
          ∙ ap (λ n. get_or c.args.handed.now left d ∷ (drop n c.args.handed.now ++ reverse c.args.opened.now.items)) (sym e)
          ∙ ap (λ xs. xs ++ reverse c.args.opened.now.items) (sym (drop-cons c.args.handed.now left d (omega arith)));
    }

pub returns : goal.returns
returns g c =
    let z : c.arguments.left ≡ 0 = omega arith in
    c.arguments.invariant.opened ∙ ap (λ n. drop n c.args.handed.now ++ reverse c.args.opened.now.items) z
