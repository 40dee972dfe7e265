use Rattle.std.proofs.Common.{List, [], arith, ap, ◌∷◌, ◌++◌, ◌∙◌}
use Rattle.std.specs.List.{remove}
use Rattle.segment_counts.specs.Counting.{no_row}
use Rattle.segment_counts.specs.declared.counts.Weights.{Weights}
use Rattle.segment_counts.proofs.Changed.{counted-removed}
use Rattle.segment_counts.proofs.RowMoves.{blank-set, remove-set}
use Rattle.segment_counts.proofs.counts.Counts.remove_rule.Goals as goal

pub close_row-requires-clause-empty : goal.close_row-requires-clause-empty
close_row-requires-clause-empty c = rw c.set_row.ensures.rows (blank-set c.args.self.now.rows c.args.rule)

pub returns-clause-rows : goal.returns-clause-rows
returns-clause-rows c = c.close_row.ensures.rows ∙ ap (λ (X : List (List Weights)). remove X c.args.rule ++ no_row ∷ []) c.set_row.ensures.rows ∙ ap (λ (X : List (List Weights)). X ++ no_row ∷ []) (remove-set c.args.self.now.rows c.args.rule no_row)

pub returns-clause-counts : goal.returns-clause-counts
returns-clause-counts c = λ names G H a v. counted-removed names c.args.rule G H c.args.self.now _ a v (omega (arith, c.close_row.ensures.rules, c.set_row.ensures.rules))
    (c.close_row.ensures.rows ∙ ap (λ (X : List (List Weights)). remove X c.args.rule ++ no_row ∷ []) c.set_row.ensures.rows ∙ ap (λ (X : List (List Weights)). X ++ no_row ∷ []) (remove-set c.args.self.now.rows c.args.rule no_row))
    (c.close_row.ensures.room ∙ c.set_row.ensures.room)
