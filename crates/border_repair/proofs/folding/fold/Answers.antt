use Rattle.std.proofs.Common.{◌≡◌, ◌<◌, drop, ◌+◌, ◌-◌, ◌∷◌, [], List, Option, length, get_or, reverse, ap, sym, subst, ◌∙◌, arith}
use Rattle.std.proofs.lemmas.List.{get_or_default}
use Rattle.rule_arena.specs.declared.label.Label.{Label}
use Rattle.rule_arena.specs.declared.label.Label.TheVariants.{Bottom}
use Rattle.slt_grammar.specs.Algebras.{ranks_of}
use Rattle.slt_grammar.specs.Bodies.{real_nodes}
use Rattle.border_repair.specs.Folding.{Folds, live}
use Rattle.border_repair.proofs.FoldedBodies.{IsFoldedDown, folded-start, can-fold, folded-next, folded-whole}
use Rattle.border_repair.proofs.SizeLemmas.{real-append}
use Rattle.border_repair.proofs.Suffixes.{drop-at}
use Rattle.border_repair.proofs.folding.fold.Goals as goal

pub labels-init : goal.labels-init
labels-init c = record {
  size = omega (arith, ap (λ (ls : List (Option Label)). real_nodes (live (reverse ls))) c.clear.ensures.items);
  within = omega arith;
  folded = λ term. folded-start (ranks_of c.args.rules.now) c.args.digram c.args.body.now (reverse c.clear-2.new.self.items) (reverse c.clear.new.self.items) (ap reverse c.clear-2.ensures.items) (ap reverse c.clear.ensures.items);
}

pub labels-preserved : goal.labels-preserved
labels-preserved c =
    let ranks = ranks_of c.args.rules.now in
    let body = c.args.body.now in
    let label = get_or body (c.labels.left - 1) Bottom in
    let more : c.labels.left ≡ (c.labels.left - 1) + 1 = omega arith in
    let in_body : c.labels.left - 1 < length body = omega (arith, c.labels.invariant.within) in
    let here = get_or_default body (c.labels.left - 1) label Bottom in_body in
    let next : drop (c.labels.left - 1) body ≡ label ∷ drop ((c.labels.left - 1) + 1) body = drop-at body (c.labels.left - 1) label in_body here in
    record {
      size = omega (arith, ap real_nodes next, real-append (label ∷ []) (drop ((c.labels.left - 1) + 1) body), ap (λ n. real_nodes (drop n body)) more, c.labels.invariant.size, c.in_ok-fold_label.ensures.size);
      within = omega (arith, c.labels.invariant.within);
      folded = λ term.
          let f = subst (λ n. IsFoldedDown ranks c.args.digram body n (reverse c.labels.roots.items) (reverse c.labels.labels.items)) more (c.labels.invariant.folded term) in
          let can = can-fold ranks c.args.digram body term (c.labels.left - 1) (reverse c.labels.roots.items) (reverse c.labels.labels.items) f label here in
          folded-next ranks c.args.digram body term (c.labels.left - 1) (reverse c.labels.roots.items) (reverse c.labels.labels.items) f label here
          (reverse c.fold_label.new.roots.items) (reverse c.fold_label.new.labels.items) (c.in_ok-fold_label.ensures.folding can);
    }

pub returns-clause-folded : goal.returns-clause-folded
returns-clause-folded c term =
    let ranks = ranks_of c.args.rules.now in
    let body = c.args.body.now in
    let end : c.labels.left ≡ 0 = omega arith in
    let f = subst (λ n. IsFoldedDown ranks c.args.digram body n (reverse c.labels.roots.items) (reverse c.labels.labels.items)) end (c.labels.invariant.folded term) in
    subst (λ (ls : List Label). Folds ranks 0 c.args.digram body (ls ∷ [])) (sym (c.in_ok-folded.ensures ∙ ap (λ (ls : List (Option Label)). live (reverse ls)) c.as_slice.ensures.value))
    (folded-whole ranks c.args.digram body term (reverse c.labels.roots.items) (reverse c.labels.labels.items) f)

pub returns-clause-size : goal.returns-clause-size
returns-clause-size c =
    let body = c.args.body.now in
    let end : c.labels.left ≡ 0 = omega arith in
    omega (arith, ap real_nodes (c.in_ok-folded.ensures ∙ ap (λ (ls : List (Option Label)). live (reverse ls)) c.as_slice.ensures.value), c.labels.invariant.size, ap (λ n. real_nodes (drop n body)) end)
