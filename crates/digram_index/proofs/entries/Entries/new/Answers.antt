use Rattle.std.proofs.Common.{ℕ, List, get_or, Option, None, ap, ◌∙◌}
use Rattle.digram_index.proofs.SpotLemmas.{empty-entries}
use Rattle.digram_index.proofs.entries.Entries.new.Goals as goal

pub invariant_of-result : goal.invariant_of-result
invariant_of-result c =
    empty-entries c.add_buckets.new.ranking
    c.in_ok-add_buckets.ensures.room
    (λ e. ap (λ (os : List (Option ℕ)). get_or os e None) (c.add_buckets.ensures.held ∙ c.new-ranking.ensures.items))
    c.new-2.result.items c.new-4.result c.new-3.result c.new.result.patterns c.new.ensures c.new-2.ensures.items c.new-4.ensures c.new-3.ensures.items
