use Rattle.border_repair.proofs.Tops.{IsBest}
use Rattle.border_repair.proofs.weights.Weights.top.Given as goal

abbrev pub invariant-entries : goal.invariant-entries
invariant-entries l = IsBest l.self-inside.counts.entries l.bound l.at l.most l.top
