use Rattle.std.proofs.Common.{◌∙◌, sym, refl, arith, ap, Some}
use Rattle.segment_counts.specs.Weights.{text_weight}
use Rattle.preorder_address.proofs.Naming.{total-count}
use Rattle.preorder_address.proofs.TreeSites.{tree-node, told-before, no-rank, rank-told}
use Rattle.preorder_address.proofs.nodes.text_rank.Goals as goal

pub returns-in_err-site-clause-rank : goal.returns-in_err-site-clause-rank
returns-in_err-site-clause-rank g c = λ t code.
    let a = c.args in
    let n = total-count a.names.now a.grammar.now.rules t code a.counts.now (a.names.now, c.requires.counts) c.limit-limit.ensures.keyed.grammar in
    c.from_residual.ensures ∙ sym (no-rank a.names.now a.grammar.now.rules t code a.number (grind (arith, n, c.in_err-site.ensures.some)))

pub returns-clause-rank : goal.returns-clause-rank
returns-clause-rank g c = λ t code.
    let a = c.args in
    let n = total-count a.names.now a.grammar.now.rules t code a.counts.now (a.names.now, c.requires.counts) c.limit-limit.ensures.keyed.grammar in
    let x = tree-node a.names.now a.grammar.now.rules t code a.number (grind (arith, n, c.in_ok-site.ensures.some)) in
    ap Some (c.in_ok-site.ensures.before ∙ told-before a.names.now a.grammar.now.rules t code a.number x.0 x.1 (text_weight a.names.now) refl) ∙ rank-told a.names.now a.grammar.now.rules t code a.number x.0 x.1
