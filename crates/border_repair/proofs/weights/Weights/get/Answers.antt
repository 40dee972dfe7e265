use Rattle.std.proofs.Common.{◌∙◌, ap, sym}
use Rattle.std.specs.Option.{unwrap_or}
use Rattle.border_repair.specs.Counted.{counted_edge, counted_under}
use Rattle.border_repair.proofs.weights.Weights.get.Goals as goal

pub returns-in-Symbol : goal.returns-in-Symbol
returns-in-Symbol c = c.unwrap_or.ensures ∙ ap (λ o. unwrap_or o 0) (c.copied.ensures ∙ c.get.ensures.value)
    ∙ ap (λ es. counted_edge es (record { upper = c.in-Symbol.upper; place = c.args.digram.place; lower = c.args.digram.lower })) c.self.view_is
    ∙ sym (ap (λ u. counted_under c.args.self.now u c.args.digram.place c.args.digram.lower) c.in-Symbol.is)
