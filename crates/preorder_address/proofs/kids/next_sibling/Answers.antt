use Rattle.std.proofs.Common.{◌∙◌, ◌+◌, ◌<◌, sym, refl, arith, subst, ℕ}
use Rattle.std.specs.Prelude.{IsSome, ◌↔◌}
use Rattle.preorder_address.proofs.Naming.{total-count}
use Rattle.preorder_address.proofs.TreeKids.{all-fits, site-fits, number-fits, no-next, next-told, none-told, total-all}
use Rattle.preorder_address.proofs.TreeSites.{tree-node}
use Rattle.preorder_address.proofs.kids.next_sibling.Goals as goal

pub returns-in_err-site-clause-next : goal.returns-in_err-site-clause-next
returns-in_err-site-clause-next g c = λ names t code.
    let a = c.args in
    let n = total-count names a.grammar.now.rules t code a.counts.now c.requires.counts c.limit-limit.ensures.keyed.grammar in
    c.from_residual.ensures ∙ sym (no-next names a.grammar.now.rules t code a.number (grind (arith, n, c.in_err-site.ensures.some)))

pub overflow_add-site : goal.overflow_add-site
overflow_add-site g c =
    let a = c.args in
    let G = c.limit-limit.ensures.keyed.grammar in
    let s = c.in_ok-site.site in
    let h = c.in_ok-site.ensures.some.0 refl in
    let f = site-fits a.grammar.now.rules a.counts.now c.requires.counts G a.number s.before s.below h c.in_ok-site.ensures.before c.in_ok-site.ensures.below in
    let m = number-fits a.grammar.now.rules a.counts.now c.requires.counts G a.number s.before s.below h c.in_ok-site.ensures.before c.in_ok-site.ensures.below in
    let l = all-fits a.grammar.now.rules a.counts.now c.requires.counts G in
    omega (arith, f, m, l)

pub overflow_add-site-2 : goal.overflow_add-site-2
overflow_add-site-2 g c =
    let a = c.args in
    let G = c.limit-limit.ensures.keyed.grammar in
    let s = c.in_ok-site.site in
    let h = c.in_ok-site.ensures.some.0 refl in
    let f = site-fits a.grammar.now.rules a.counts.now c.requires.counts G a.number s.before s.below h c.in_ok-site.ensures.before c.in_ok-site.ensures.below in
    let m = number-fits a.grammar.now.rules a.counts.now c.requires.counts G a.number s.before s.below h c.in_ok-site.ensures.before c.in_ok-site.ensures.below in
    let l = all-fits a.grammar.now.rules a.counts.now c.requires.counts G in
    omega (arith, f, m, l)

pub overflow_add-result : goal.overflow_add-result
overflow_add-result g c =
    let a = c.args in
    let G = c.limit-limit.ensures.keyed.grammar in
    let s = c.in_ok-site.site in
    let h = c.in_ok-site.ensures.some.0 refl in
    let f = site-fits a.grammar.now.rules a.counts.now c.requires.counts G a.number s.before s.below h c.in_ok-site.ensures.before c.in_ok-site.ensures.below in
    let m = number-fits a.grammar.now.rules a.counts.now c.requires.counts G a.number s.before s.below h c.in_ok-site.ensures.before c.in_ok-site.ensures.below in
    let l = all-fits a.grammar.now.rules a.counts.now c.requires.counts G in
    omega (arith, f, m, l)

pub overflow_add-result-then-is_symbol : goal.overflow_add-result-then-is_symbol
overflow_add-result-then-is_symbol g c =
    let a = c.args in
    let G = c.limit-limit.ensures.keyed.grammar in
    let s = c.in_ok-site.site in
    let h = c.in_ok-site.ensures.some.0 refl in
    let f = site-fits a.grammar.now.rules a.counts.now c.requires.counts G a.number s.before s.below h c.in_ok-site.ensures.before c.in_ok-site.ensures.below in
    let m = number-fits a.grammar.now.rules a.counts.now c.requires.counts G a.number s.before s.below h c.in_ok-site.ensures.before c.in_ok-site.ensures.below in
    let l = all-fits a.grammar.now.rules a.counts.now c.requires.counts G in
    omega (arith, f, m, l)

pub returns-then-is_symbol-clause-next : goal.returns-then-is_symbol-clause-next
returns-then-is_symbol-clause-next g c = λ names t code.
    let a = c.args in
    let G = c.limit-limit.ensures.keyed.grammar in
    let s = c.in_ok-site.site in
    let h = c.in_ok-site.ensures.some.0 refl in
    let f = site-fits a.grammar.now.rules a.counts.now c.requires.counts G a.number s.before s.below h c.in_ok-site.ensures.before c.in_ok-site.ensures.below in
    let m = number-fits a.grammar.now.rules a.counts.now c.requires.counts G a.number s.before s.below h c.in_ok-site.ensures.before c.in_ok-site.ensures.below in
    let l = all-fits a.grammar.now.rules a.counts.now c.requires.counts G in
    let n = total-count names a.grammar.now.rules t code a.counts.now c.requires.counts G in
    let x = tree-node names a.grammar.now.rules t code a.number (omega (arith, n, h)) in
    let o = subst (λ (k : ℕ). IsSome c.label_at-behind.result ↔ s.before + s.below + 1 < k) (total-all a.grammar.now.rules a.counts.now c.requires.counts G) c.label_at-behind.ensures.some in
    next-told names a.grammar.now.rules t code a.number x.0 x.1 s.before s.below c.in_ok-site.ensures.before c.in_ok-site.ensures.below c.label_at-behind.result o c.label_at-behind.ensures.counted c.label_at-behind.ensures.there (sym c.is_symbol.ensures ∙ c.if-is_symbol.true)

pub returns-else-is_symbol-clause-next : goal.returns-else-is_symbol-clause-next
returns-else-is_symbol-clause-next g c = λ names t code.
    let a = c.args in
    let G = c.limit-limit.ensures.keyed.grammar in
    let s = c.in_ok-site.site in
    let h = c.in_ok-site.ensures.some.0 refl in
    let f = site-fits a.grammar.now.rules a.counts.now c.requires.counts G a.number s.before s.below h c.in_ok-site.ensures.before c.in_ok-site.ensures.below in
    let m = number-fits a.grammar.now.rules a.counts.now c.requires.counts G a.number s.before s.below h c.in_ok-site.ensures.before c.in_ok-site.ensures.below in
    let l = all-fits a.grammar.now.rules a.counts.now c.requires.counts G in
    let n = total-count names a.grammar.now.rules t code a.counts.now c.requires.counts G in
    let x = tree-node names a.grammar.now.rules t code a.number (omega (arith, n, h)) in
    let o = subst (λ (k : ℕ). IsSome c.label_at-behind.result ↔ s.before + s.below + 1 < k) (total-all a.grammar.now.rules a.counts.now c.requires.counts G) c.label_at-behind.ensures.some in
    none-told names a.grammar.now.rules t code a.number x.0 x.1 s.before s.below c.in_ok-site.ensures.before c.in_ok-site.ensures.below c.label_at-behind.result o c.label_at-behind.ensures.counted c.label_at-behind.ensures.there (sym c.is_symbol.ensures ∙ c.if-is_symbol.false)
