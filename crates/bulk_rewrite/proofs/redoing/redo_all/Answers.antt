use Rattle.std.proofs.Common.{◌≡◌, ◌+◌, length, drop, ap, subst, arith, ◌∙◌}
use Rattle.bulk_rewrite.specs.Fates.{redone}
use Rattle.bulk_rewrite.specs.Redoing.{all_texts}
use Rattle.bulk_rewrite.specs.Tags.{told_fates}
use Rattle.bulk_rewrite.proofs.Redone.{all-gone}
use Rattle.bulk_rewrite.proofs.redoing.redo_all.Goals as goal

pub texts-preserved : goal.texts-preserved
texts-preserved c = record {
  within = (let n = c.originals-count.ensures in let w = c.in_ok-place.ensures.within in omega (arith, ap length c.texts.invariant.originals));
  originals = c.in_ok-place.ensures.originals ∙ c.texts.invariant.originals;
  texts = subst (λ os. all_texts c.redo_next.new.redoing (redone (told_fates c.redo_next.new.answers) (drop (c.texts.place + c.in_ok-place.field-0) os)) ≡ all_texts c.texts.redoing (redone (told_fates c.texts.answers) (drop c.texts.place os))) c.texts.invariant.originals c.in_ok-place.ensures.texts
      ∙ c.texts.invariant.texts;
}

pub returns : goal.returns
returns c =
    let e = c.originals-count.ensures in
    let h = c.texts-test.false in
    all-gone c.texts.answers c.args.redoing.now.originals c.texts.place c.texts.redoing (omega (arith, e, h)) ∙ c.texts.invariant.texts
