use Rattle.std.proofs.Common.{◌≡◌, ℕ, length, get_or, false}
use Rattle.digram_index.proofs.flags.extend.Given as goal

abbrev pub invariant-loop : goal.invariant-loop
invariant-loop l = record {
  flags : (k : ℕ) → get_or l.flags.items k false ≡ get_or l.fn.flags.items k false;
  counted : length l.flags.items ≡ l.counter;
}
