use Rattle.std.proofs.Common.{refl, arith, ◌+◌}
use Rattle.preorder_address.proofs.Naming.{total-count}
use Rattle.preorder_address.proofs.TreeKids.{all-fits, site-fits, no-end, end-told, leads-inside, leads-place, no-place}
use Rattle.preorder_address.proofs.TreeSites.{tree-node}
use Rattle.preorder_address.proofs.kids.end_of_kids.Goals as goal

pub returns-in_err-site-clause-end : goal.returns-in_err-site-clause-end
returns-in_err-site-clause-end g c = λ names t code.
    let a = c.args in
    let n = total-count names a.grammar.now.rules t code a.counts.now c.requires.counts c.limit-limit.ensures.keyed.grammar in
    no-place a.grammar.now.rules c.from_residual.result _ c.from_residual.ensures (no-end names a.grammar.now.rules t code a.number (grind (arith, n, c.in_err-site.ensures.some)))

pub overflow_add-site : goal.overflow_add-site
overflow_add-site g c =
    let a = c.args in
    let G = c.limit-limit.ensures.keyed.grammar in
    let f = site-fits a.grammar.now.rules a.counts.now c.requires.counts G a.number c.in_ok-site.site.before c.in_ok-site.site.below (c.in_ok-site.ensures.some.0 refl) c.in_ok-site.ensures.before c.in_ok-site.ensures.below in
    omega (arith, f, all-fits a.grammar.now.rules a.counts.now c.requires.counts G)

pub returns-clause-end : goal.returns-clause-end
returns-clause-end g c = λ names t code.
    let a = c.args in
    let G = c.limit-limit.ensures.keyed.grammar in
    let n = total-count names a.grammar.now.rules t code a.counts.now c.requires.counts G in
    let h = c.in_ok-site.ensures.some.0 refl in
    let x = tree-node names a.grammar.now.rules t code a.number (omega (arith, n, h)) in
    let f = site-fits a.grammar.now.rules a.counts.now c.requires.counts G a.number c.in_ok-site.site.before c.in_ok-site.site.below h c.in_ok-site.ensures.before c.in_ok-site.ensures.below in
    let e = end-told names a.grammar.now.rules t code a.number x.0 x.1 c.in_ok-site.site.before c.in_ok-site.site.below c.in_ok-site.ensures.before c.in_ok-site.ensures.below in
    leads-place a.grammar.now.rules c.locate_place.result _ _ e (c.locate_place.ensures.some.1 (omega (arith, f))) (c.locate_place.ensures.leads a.grammar.now c.limit-limit.ensures.keyed c.requires.counts)

pub returns-clause-inside : goal.returns-clause-inside
returns-clause-inside g c =
    let a = c.args in
    let s = c.in_ok-site.site in
    leads-inside a.grammar.now.rules (s.before + s.below) c.locate_place.result (c.locate_place.ensures.leads a.grammar.now c.limit-limit.ensures.keyed c.requires.counts)

pub returns-clause-some : goal.returns-clause-some
returns-clause-some g c =
    let a = c.args in
    let G = c.limit-limit.ensures.keyed.grammar in
    let h = c.in_ok-site.ensures.some.0 refl in
    let f = site-fits a.grammar.now.rules a.counts.now c.requires.counts G a.number c.in_ok-site.site.before c.in_ok-site.site.below h c.in_ok-site.ensures.before c.in_ok-site.ensures.below in
    (λ s. h, λ n. c.locate_place.ensures.some.1 (omega (arith, f)))
