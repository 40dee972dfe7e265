use Rattle.std.proofs.Common.{◌≡◌, Option, Some, false, true, ◌∙◌, sym}
use Rattle.std.specs.Prelude.{IfNone, IfSome, is_some}
use Rattle.tree_updates.proofs.AttributeElements.{between-end, between-first, between-next}
use Rattle.tree_updates.proofs.kid_attributes.element_of.Goals as goal

some-there : {X : Type 0} {P : X → Type 0} (o : Option X) → is_some o ≡ true → IfSome o P → (x : X) × P x
some-there (Some x) e p = (x, p)
some-there _ e p = absurd cc

none-there : {X P : Type 0} (o : Option X) → is_some o ≡ false → IfNone o P → P
none-there (Some x) e p = absurd cc
none-there _ e p = p

pub loop-element-init : goal.loop-element-init
loop-element-init g c = record {
  between = λ t i told. between-first t i.stand.document c.args.number told;
  marks = c.requires.marks;
}

pub loop-element-preserved : goal.loop-element-preserved
loop-element-preserved g c = record {
  between = λ t i told.
      let here = some-there c.in_ok-attribute_at.field-0 (sym c.is_some.ensures ∙ c.if-is_some.true) c.in_ok-attribute_at.ensures.yes in
      between-next t i.stand.document c.args.number told c.loop-element.element (c.loop-element.invariant.between t i told) here.0.now (here.1 t i);
  marks = c.attribute_at.ensures.marks;
}

pub returns-clause-parent : goal.returns-clause-parent
returns-clause-parent g c = λ t i told.
    let last = none-there c.in_ok-attribute_at.field-0 (sym c.is_some.ensures ∙ c.if-is_some.false) c.in_ok-attribute_at.ensures.no in
    between-end t i.stand.document c.args.number told c.loop-element.element (c.loop-element.invariant.between t i told) (λ y. last t y i)
