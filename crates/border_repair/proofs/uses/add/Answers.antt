use Rattle.std.proofs.Common.{◌≡◌, ◌∙◌, ap, Some, cond, ◌+◌}
use Rattle.std.specs.Map.{lookup}
use Rattle.std.specs.Option.{unwrap_or}
use Rattle.border_repair.specs.SameEdges.{is_same}
use Rattle.border_repair.specs.Counted.{counted_edge}
use Rattle.border_repair.proofs.EdgeLemmas.{counted-more}
use Rattle.border_repair.proofs.uses.add.Goals as goal

pub returns : goal.returns
returns c =
    let before : c.unwrap_or-before.result ≡ counted_edge c.args.counts.now.entries c.args.edge = c.unwrap_or-before.ensures ∙ ap (λ o. unwrap_or o 0) (c.copied.ensures ∙ c.get.ensures.value) in
    counted-more c.args.counts.now.entries c.insert.new.self.entries c.args.edge c.args.times
    (λ q. c.in_ok-insert.ensures.updates.0 q ∙ ap (λ n. cond (is_same c.args.edge q) (Some (n + c.args.times)) (lookup (is_same q) c.args.counts.now.entries)) before)
