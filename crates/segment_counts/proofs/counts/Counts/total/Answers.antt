use Rattle.std.proofs.Common.{◌≡◌, ◌∙◌, ◌-◌, ap, arith}
use Rattle.segment_counts.specs.Counting.{told}
use Rattle.segment_counts.specs.declared.counts.Measure.TheVariants.{Nodes}
use Rattle.segment_counts.proofs.Telling.{total-told}
use Rattle.segment_counts.proofs.counts.Counts.total.Goals as goal

pub returns-clause-nodes : goal.returns-clause-nodes
returns-clause-nodes c = λ names G a g.
    let last : c.saturating_sub.result ≡ c.args.self.now.rules - 1 = omega (arith, c.saturating_sub.ensures, c.rules.ensures) in
    c.nodes.ensures.kept ∙ ap (λ r. told Nodes c.args.self.now.rows r 0) last ∙ total-told names G c.args.self.now a g Nodes
