use Rattle.std.proofs.Common.{◌≡◌, ◌≤◌, ℕ, length, get_or}
use Rattle.digram_index.specs.Uppers.{numbers_of}
use Rattle.digram_index.proofs.uppers.fill.Given as goal

abbrev pub invariant-loop : goal.invariant-loop
invariant-loop l = record {
  numbers : (k : ℕ) → get_or (numbers_of l.keys.items) k 0 ≡ get_or (numbers_of l.fn.keys.items) k 0;
  more : length l.fn.keys.items ≤ length l.keys.items;
  counted : length l.keys.items ≡ l.counter;
}
