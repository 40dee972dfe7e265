use Rattle.std.proofs.Common.{◌≡◌, ◌<◌, ◌≤◌, ◌⊎◌, ℕ, length, get_or}
use Rattle.slt_grammar.proofs.order.renumber.Given as goal

abbrev pub invariant-loop-p : goal.invariant-loop-p
invariant-loop-p l = record {
  done : (q : ℕ) → (q < l.p) ⊎ (l.to ≤ q) → q < length l.ids.items → get_or l.places.items (get_or l.ids.items q 0) 0 ≡ q;
  len : length l.places.items ≡ length l.initial.places.items;
}
