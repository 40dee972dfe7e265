use Rattle.std.proofs.Common.{◌≡◌, ◌∙◌, ◌+◌, ◌-◌, ◌*◌, ap, sym, refl, arith, suc, ℕ}
use Rattle.plain_tree.specs.declared.kind.Kind.TheVariants.{Attribute}
use Rattle.slt_grammar.specs.Grammars.{whole}
use Rattle.slt_grammar.specs.Keyed.{rules_of}
use Rattle.preorder_address.proofs.TreeAttributes.{from_number, attribute-more, attribute-none, is-some, turn-more}
use Rattle.preorder_address.proofs.TreeKids.{nodes-fit}
use Rattle.preorder_address.proofs.kids.leading_attributes.Goals as goal

pub overflow_add-first : goal.overflow_add-first
overflow_add-first g c =
    let a = c.args in
    let f = nodes-fit a.grammar.now.rules a.counts.now c.requires.counts c.limit-limit.ensures.keyed.grammar in
    omega (arith, f, c.loop-passed.invariant.there)

pub returns-then-not-is_attribute-clause-attributes : goal.returns-then-not-is_attribute-clause-attributes
returns-then-not-is_attribute-clause-attributes g c = λ t code.
    let a = c.args in
    let p = c.loop-passed.passed in
    let n = c.if-not-is_attribute.ensures.no refl in
    let z = attribute-none t (a.first + p) (a.most - p) (λ e. n (c.kind_of-kind.ensures.kind t code ∙ e)) in
    let i = c.loop-passed.invariant.attributes t code in
    omega (arith, z, i)

pub loop-passed-preserved : goal.loop-passed-preserved
loop-passed-preserved g c =
    let a = c.args in
    let p = c.loop-passed.passed in
    let k = c.if-not-is_attribute.ensures.yes refl in
    let i = c.loop-passed.invariant in
    let w : ℕ = 4 * whole (rules_of a.grammar.now.rules) + 1 in
    record {
      there = omega (arith, c.kind_of-kind.ensures.below (is-some c.kind_of-kind.result Attribute k));
      attributes = λ t code.
          let e = attribute-more t (a.first + p) (a.most - (p + 1)) (sym (c.kind_of-kind.ensures.kind t code) ∙ k) in
          let m : a.most - p ≡ suc (a.most - (p + 1)) = omega (arith, c.loop-passed-test.true) in
          let s : a.first + p + 1 ≡ a.first + (p + 1) = omega arith in
          let f = ap (from_number t (a.first + p)) m in
          let h = ap (λ j. from_number t j (a.most - (p + 1))) s in
          omega (arith, i.attributes t code, e, f, h);
      few = omega (arith, turn-more p w, i.few, c.kind_of-kind.ensures.steps);
    }
