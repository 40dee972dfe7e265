use Rattle.std.proofs.Common.{◌≡◌, Bool, true, false, refl, ap, sym, ◌∙◌}
use Rattle.std.specs.Prelude.{not}
use Rattle.std.proofs.Math.Bool.{true≢false}
use Rattle.tree_updates.proofs.SpareNodes.{goes, stays}
use Rattle.tree_updates.proofs.spare_node.is_spare.Goals as goal

not-yes : (b : Bool) → (b ≡ true → ⊥) → not b ≡ true
not-yes true h = absurd (h refl)
not-yes false h = refl

pub returns : goal.returns
returns c = record {
  spare = λ t d low told e.
      let n = c.args.number in
      let j = c.kind_above.result in
      let under = c.kind_above.ensures.above t d low e in (
        λ h. goes t n low c.args.kind told j under (λ f g. true≢false (sym h ∙ ap not (c.is_element.ensures.1 g))),
        λ allowed. not-yes c.is_element.result (λ h. stays t n low c.args.kind told j under (c.is_document.ensures.0 c.if-not-is_document.false) (c.is_element.ensures.0 h) allowed),
      );
}
