use Rattle.std.proofs.Common.{◌≡◌, ◌∙◌, ◌-◌, ap, arith}
use Rattle.segment_counts.specs.Counting.{told}
use Rattle.segment_counts.specs.declared.counts.Measure.TheVariants.{Texts}
use Rattle.segment_counts.proofs.Telling.{total-told}
use Rattle.segment_counts.proofs.counts.Counts.total_texts.Goals as goal

pub returns-clause-texts : goal.returns-clause-texts
returns-clause-texts c = λ names G a g.
    let last : c.saturating_sub.result ≡ c.args.self.now.rules - 1 = omega (arith, c.saturating_sub.ensures, c.rules.ensures) in
    c.texts.ensures.kept ∙ ap (λ r. told Texts c.args.self.now.rows r 0) last ∙ total-told names G c.args.self.now a g Texts
