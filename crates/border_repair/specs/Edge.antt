-- What is hashed of an edge.
use Rattle.std.specs.Prelude.{ℕ, ◌+◌, ◌-◌, ◌*◌, ◌^◌}
use Rattle.rule_arena.specs.declared.label.Label.{Label}
use Rattle.rule_arena.specs.declared.label.Label.TheVariants.{Bottom, Symbol, Call, Param}
use Rattle.border_repair.specs.declared.edge.Edge.{Edge}

abbrev pub label_code : Label → ℕ
label_code Bottom = 2 ^ 62
label_code Param = 2 ^ 61
label_code (Symbol f) = f
label_code (Call q) = 2 ^ 64 - 1 - q

abbrev pub edge_code : Edge → ℕ
edge_code x = x.upper * 2 ^ 64 + label_code x.lower
