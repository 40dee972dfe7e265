use Rattle.std.proofs.Common.{◌≡◌, ◌≤◌, ◌-◌, take, drop}
use Rattle.tree_updates.proofs.joining.middle_texts.Given as goal

abbrev pub invariant-loop-at : goal.invariant-loop-at
invariant-loop-at l = (l.from ≤ l.at) × ((l.at ≤ l.to) × (l.values ≡ take (l.at - l.from) (drop l.from l.texts)))
