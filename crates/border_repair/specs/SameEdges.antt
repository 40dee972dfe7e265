-- Equal edges are identical.
use Rattle.std.specs.Prelude.{Bool}
use Rattle.border_repair.specs.declared.edge.Edge.{Edge}
use Rattle.border_repair.specs.contracts.edge.EdgePartialEq.TheImpl.{eq-value}

-- whether two edges are the same
abbrev pub is_same : Edge → Edge → Bool
is_same x y = eq-value.it x y
