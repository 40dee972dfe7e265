use Rattle.std.proofs.Common.{sym, ◌∙◌, ap, Some}
use Rattle.std.proofs.Math.Bool.{true≢false}
use Rattle.tree_updates.proofs.SpareNodes.{attribute-alone, beside}
use Rattle.tree_updates.proofs.fragment_spots.may_stand_beside.Goals as goal

pub returns-then-is_attribute : goal.returns-then-is_attribute
returns-then-is_attribute c = record {
  may = λ t d low told e. (
    λ h. absurd (true≢false (sym h)),
    λ allowed. absurd (attribute-alone t c.args.number low (told ∙ ap Some (c.is_attribute.ensures.0 c.if-is_attribute.true)) c.args.fragment.now allowed),
  );
}

pub returns : goal.returns
returns c = record {
  may = λ t d low told e.
      beside t c.args.number low c.args.kind told c.kind_above.result (c.kind_above.ensures.above t d low e) c.args.fragment.now (λ f. true≢false (sym (c.is_attribute.ensures.1 f) ∙ c.if-is_attribute.false))
      c.may_stand_under.result c.may_stand_under.ensures;
}
