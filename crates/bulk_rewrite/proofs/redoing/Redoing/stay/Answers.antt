use Rattle.std.proofs.Common.{◌+◌, ◌-◌, ◌++◌, sym, ap, ◌∙◌}
use Rattle.std.specs.Prelude.{slice_range}
use Rattle.bulk_rewrite.specs.Redoing.{TextsSoFar}
use Rattle.bulk_rewrite.proofs.Redone.{stay-at}
use Rattle.bulk_rewrite.proofs.redoing.Redoing.stay.Goals as goal

pub returns-clause-texts : goal.returns-clause-texts
returns-clause-texts c =
    let same = c.in_ok-copy_many.ensures.originals in
    let copied = c.in_ok-copy_many.ensures.ok ∙ ap (λ os. c.self.inside.done.texts ++ slice_range os c.args.place (c.args.place + (c.args.count - 1))) (sym same) in
    stay-at c.args.self.now c.copy_many.new.self.originals c.self.inside.done.texts c.copy_many.new.self.texts c.args.place c.args.count (same ∙ ap (λ (s : TextsSoFar). s.originals) c.self.view_is ∙ c.in_ok-close.ensures.originals) (ap (λ (s : TextsSoFar). s.done) (c.self.view_is ∙ c.in_ok-close.ensures.closed)) copied
    c.requires.some c.requires.range
