use Rattle.std.proofs.Common.{◌≡◌, ◌∙◌, ◌-◌, ap, arith}
use Rattle.slt_grammar.specs.Keyed.{rules_of}
use Rattle.segment_counts.specs.Counting.{told, weight_by}
use Rattle.segment_counts.specs.declared.counts.Weights.{Weights}
use Rattle.segment_counts.proofs.Telling.{total-told}
use Rattle.tree_updates.proofs.moving_marks.whole_weights.Goals as goal

pub returns : goal.returns
returns c = λ names G a g m.
    let last : c.saturating_sub.result ≡ c.args.counts.now.rules - 1 = omega (arith, c.saturating_sub.ensures, c.rules.ensures) in
    ap (λ (w : Weights). weight_by m w) c.at.ensures ∙ ap (λ r. told m c.args.counts.now.rows r 0) last ∙ total-told names (rules_of G) c.args.counts.now a g m
