use Rattle.std.proofs.Common.{◌/◌, refl, ap, arith, ◌+◌, ◌*◌, ℕ}
use Rattle.slt_grammar.specs.Grammars.{whole}
use Rattle.slt_grammar.specs.Keyed.{rules_of}
use Rattle.preorder_address.proofs.Behind.{place-behind}
use Rattle.preorder_address.proofs.Naming.{total-count}
use Rattle.preorder_address.proofs.TreeKids.{all-fits, nodes-fit, site-fits, attributes-are, no-after, after-is, below-is, leads-inside, leads-place, no-place}
use Rattle.preorder_address.proofs.TreeSites.{tree-node}
use Rattle.preorder_address.proofs.kids.after_attributes.Goals as goal

pub returns-in_err-site-clause-after : goal.returns-in_err-site-clause-after
returns-in_err-site-clause-after g c = λ values t stands.
    let a = c.args in
    let n = total-count a.names.now a.grammar.now.rules t stands.code a.counts.now c.requires.counts c.limit-limit.ensures.keyed.grammar in
    no-place a.grammar.now.rules c.from_residual.result _ c.from_residual.ensures (no-after a.names.now a.grammar.now.rules t stands.code a.number (grind (arith, n, c.in_err-site.ensures.some)))

pub overflow_add-number : goal.overflow_add-number
overflow_add-number g c =
    let a = c.args in
    omega (arith, c.in_ok-site.ensures.some.0 refl, nodes-fit a.grammar.now.rules a.counts.now c.requires.counts c.limit-limit.ensures.keyed.grammar)

pub overflow_add-site : goal.overflow_add-site
overflow_add-site g c =
    let a = c.args in
    let G = c.limit-limit.ensures.keyed.grammar in
    let s = c.in_ok-site.site in
    let h = c.in_ok-site.ensures.some.0 refl in
    let f = site-fits a.grammar.now.rules a.counts.now c.requires.counts G a.number s.before s.below h c.in_ok-site.ensures.before c.in_ok-site.ensures.below in
    let l = all-fits a.grammar.now.rules a.counts.now c.requires.counts G in
    let m = c.leading_attributes-attributes.ensures.few in
    omega (arith, f, l, m)

pub overflow_add-site-2 : goal.overflow_add-site-2
overflow_add-site-2 g c =
    let a = c.args in
    let G = c.limit-limit.ensures.keyed.grammar in
    let s = c.in_ok-site.site in
    let h = c.in_ok-site.ensures.some.0 refl in
    let f = site-fits a.grammar.now.rules a.counts.now c.requires.counts G a.number s.before s.below h c.in_ok-site.ensures.before c.in_ok-site.ensures.below in
    let l = all-fits a.grammar.now.rules a.counts.now c.requires.counts G in
    let m = c.leading_attributes-attributes.ensures.few in
    omega (arith, f, l, m)

pub returns-clause-after : goal.returns-clause-after
returns-clause-after g c = λ values t stands.
    let a = c.args in
    let G = c.limit-limit.ensures.keyed.grammar in
    let s = c.in_ok-site.site in
    let h = c.in_ok-site.ensures.some.0 refl in
    let f = site-fits a.grammar.now.rules a.counts.now c.requires.counts G a.number s.before s.below h c.in_ok-site.ensures.before c.in_ok-site.ensures.below in
    let l = all-fits a.grammar.now.rules a.counts.now c.requires.counts G in
    let m = c.leading_attributes-attributes.ensures.few in
    let n = total-count a.names.now a.grammar.now.rules t stands.code a.counts.now c.requires.counts G in
    let x = tree-node a.names.now a.grammar.now.rules t stands.code a.number (omega (arith, n, h)) in
    let e = after-is a.names.now a.grammar.now.rules t stands.code a.number x.0 x.1 s.before s.below c.in_ok-site.ensures.before c.in_ok-site.ensures.below stands.document.lawful (s.below / 2) c.leading_attributes-attributes.result refl
    (c.leading_attributes-attributes.ensures.attributes t stands.code) in
    let k = below-is a.names.now a.grammar.now.rules t stands.code a.number x.0 x.1 s.before s.below c.in_ok-site.ensures.before c.in_ok-site.ensures.below in
    leads-place a.grammar.now.rules c.locate_place.result _ _ e (c.locate_place.ensures.some.1 (omega (arith, f, m, k))) (c.locate_place.ensures.leads a.grammar.now c.limit-limit.ensures.keyed c.requires.counts)

pub returns-clause-inside : goal.returns-clause-inside
returns-clause-inside g c =
    let a = c.args in
    leads-inside a.grammar.now.rules (c.in_ok-site.site.before + 1 + 2 * c.leading_attributes-attributes.result) c.locate_place.result (c.locate_place.ensures.leads a.grammar.now c.limit-limit.ensures.keyed c.requires.counts)

pub returns-clause-steps : goal.returns-clause-steps
returns-clause-steps g c = λ values t stands.
    let a = c.args in
    let G = c.limit-limit.ensures.keyed.grammar in
    let s = c.in_ok-site.site in
    let h = c.in_ok-site.ensures.some.0 refl in
    let n = total-count a.names.now a.grammar.now.rules t stands.code a.counts.now c.requires.counts G in
    let x = tree-node a.names.now a.grammar.now.rules t stands.code a.number (omega (arith, n, h)) in
    let e = attributes-are a.names.now a.grammar.now.rules t stands.code a.number x.0 x.1 s.before s.below c.in_ok-site.ensures.before c.in_ok-site.ensures.below (s.below / 2) c.leading_attributes-attributes.result refl
    (c.leading_attributes-attributes.ensures.attributes t stands.code) in
    let w : ℕ = 4 * whole (rules_of a.grammar.now.rules) + 1 in
    omega (arith, ap (λ k. (k + 1) * w) e, c.leading_attributes-attributes.ensures.steps, c.in_ok-site.ensures.steps)

pub returns-clause-some : goal.returns-clause-some
returns-clause-some g c =
    let a = c.args in
    let s = c.in_ok-site.site in
    let h = c.in_ok-site.ensures.some.0 refl in
    let f = place-behind a.grammar.now.rules a.counts.now c.requires.counts c.limit-limit.ensures.keyed.grammar a.number s.before s.below h c.in_ok-site.ensures.before c.in_ok-site.ensures.below in
    (λ _. h, λ _. c.locate_place.ensures.some.1 (omega (arith, f, c.leading_attributes-attributes.ensures.few)))
