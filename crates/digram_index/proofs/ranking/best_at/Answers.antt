use Rattle.std.proofs.Common.{◌≡◌, ◌-◌, ◌∙◌, ◌≤◌, ◌+◌, ◌*◌, ℕ, Option, Some, None, IfSome, ap, arith}
use Rattle.digram_index.specs.Grouped.{group_at}
use Rattle.digram_index.proofs.ranking.best_at.Goals as goal

pub returns-then-is_some-clause-some : goal.returns-then-is_some-clause-some
returns-then-is_some-clause-some c = at c.first-first.result c.first-first.ensures.some
  where
    at : (o : Option ℕ) → IfSome o (λ e. group_at c.args.ranking.now e ≡ Some c.loop-bucket.bucket) → IfSome o (λ e. (rank : ℕ) × ((rank ≤ c.args.bound) × (group_at c.args.ranking.now e ≡ Some (c.args.level * 10 + rank))))
    at None h = tt
    at (Some e) h = let r : ℕ = c.loop-bucket.bucket - c.args.level * 10 in (r, (omega arith, h ∙ ap Some (omega arith)))
