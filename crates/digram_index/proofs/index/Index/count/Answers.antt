use Rattle.std.proofs.Common.{ap, sym, ◌∙◌}
use Rattle.slt_grammar.specs.declared.digram.Digram.{Digram}
use Rattle.digram_index.proofs.RankLemmas.{total-cells, no-cells, unknown-label}
use Rattle.digram_index.proofs.Tops.{digram-is}
use Rattle.digram_index.proofs.index.Index.count.Goals as goal

pub returns-then-not-is_known : goal.returns-then-not-is_known
returns-then-not-is_known c = rw (← c.self.view_is) (
    let u = c.if-not-is_known.ensures in
    sym (no-cells c.self.inside.numbers.numbers c.args.digram c.self.inside.entries.spots
    (λ p ku kl e. unknown-label c.self.inside.numbers.numbers p.upper u.0 ku u.1.1 (ap (λ (d : Digram). d.upper) e ∙ u.1.0))
    (λ k s h. (c.self.invariant.known.upper k s h, c.self.invariant.known.lower k s h, c.self.invariant.known.small k s h))))

pub returns-then-not-is_known-2 : goal.returns-then-not-is_known-2
returns-then-not-is_known-2 c = rw (← c.self.view_is) (
    let u = c.if-not-is_known-2.ensures in
    sym (no-cells c.self.inside.numbers.numbers c.args.digram c.self.inside.entries.spots
    (λ p ku kl e. unknown-label c.self.inside.numbers.numbers p.lower u.0 kl u.1.1 (ap (λ (d : Digram). d.lower) e ∙ u.1.0))
    (λ k s h. (c.self.invariant.known.upper k s h, c.self.invariant.known.lower k s h, c.self.invariant.known.small k s h))))

pub returns : goal.returns
returns c = rw (← c.self.view_is) (
    c.count_all.ensures
    ∙ total-cells c.self.inside.numbers.numbers (record { upper = c.mark_of.result; place = c.args.digram.place; lower = c.mark_of-2.result; rank = 0 }) c.args.digram c.self.inside.entries.spots
    (digram-is c.args.digram.place _ _ c.args.digram.upper c.args.digram.lower (sym c.mark_of.ensures.label) (sym c.mark_of-2.ensures.label)) c.mark_of.ensures.known c.mark_of-2.ensures.known
    (λ k s h. (c.self.invariant.known.upper k s h, c.self.invariant.known.lower k s h, c.self.invariant.known.small k s h)))
