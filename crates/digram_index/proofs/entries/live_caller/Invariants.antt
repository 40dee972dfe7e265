use Rattle.std.proofs.Common.{◌≡◌, ◌<◌, ◌≤◌, ℕ, Some}
use Rattle.digram_index.specs.CallChains.{CallsNumber, IsLatest}
use Rattle.digram_index.specs.Grouped.{group_at}
use Rattle.digram_index.proofs.ChainLemmas.{length_of}
use Rattle.digram_index.proofs.entries.live_caller.Given as goal

abbrev pub invariant-loop-next : goal.invariant-loop-next
invariant-loop-next l = record {
  calls : (e : ℕ) → l.next ≡ Some e → CallsNumber l.patterns.patterns l.number e;
  left : (before k e : ℕ) → IsLatest l.patterns.patterns l.number before l.fn.from → e < before → CallsNumber l.patterns.patterns l.number e → group_at l.occurrences k ≡ Some e
      → (m : ℕ) × ((l.next ≡ Some m) × (e ≤ m));
}

abbrev pub decreases-loop-next : goal.decreases-loop-next
decreases-loop-next l = length_of l.next
