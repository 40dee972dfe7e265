use Rattle.std.proofs.Common.{◌∙◌, arith}
use Rattle.bulk_rewrite.proofs.Redone.{joins-more}
use Rattle.bulk_rewrite.proofs.redoing.Redoing.join_all.Goals as goal

pub texts-preserved : goal.texts-preserved
texts-preserved c = record {
  originals = c.in_ok-join.ensures.originals ∙ c.texts.invariant.originals;
  texts = joins-more c.args.self.now c.texts.self c.join.new.self c.args.place c.texts.next c.texts.invariant.originals (omega arith) c.texts.invariant.texts c.in_ok-join.ensures.texts;
}
