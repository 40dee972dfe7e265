use Rattle.std.proofs.Common.{◌∙◌, sym, refl, arith}
use Rattle.segment_counts.specs.Weights.{all_weight}
use Rattle.preorder_address.proofs.Naming.{total-count}
use Rattle.preorder_address.proofs.TreeSites.{tree-node, told-below, no-extent, extent-told}
use Rattle.preorder_address.proofs.nodes.extent.Goals as goal

pub returns-in_err-site-clause-extent : goal.returns-in_err-site-clause-extent
returns-in_err-site-clause-extent g c = λ names t code.
    let a = c.args in
    let n = total-count names a.grammar.now.rules t code a.counts.now c.requires.counts c.limit-limit.ensures.keyed.grammar in
    c.from_residual.ensures ∙ sym (no-extent names a.grammar.now.rules t code a.number (grind (arith, n, c.in_err-site.ensures.some)))

pub returns-clause-extent : goal.returns-clause-extent
returns-clause-extent g c = λ names t code.
    let a = c.args in
    let n = total-count names a.grammar.now.rules t code a.counts.now c.requires.counts c.limit-limit.ensures.keyed.grammar in
    let x = tree-node names a.grammar.now.rules t code a.number (grind (arith, n, c.in_ok-site.ensures.some)) in
    extent-told names a.grammar.now.rules t code a.number x.0 x.1 c.in_ok-site.site.below (c.in_ok-site.ensures.below ∙ told-below names a.grammar.now.rules t code a.number x.0 x.1 all_weight refl)
