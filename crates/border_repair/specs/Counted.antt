-- What edges with their counts say of digrams.
use Rattle.std.specs.Prelude.{ℕ, List}
use Rattle.std.specs.Map.{lookup}
use Rattle.std.specs.Option.{unwrap_or}
use Rattle.rule_arena.specs.declared.label.Label.{Label}
use Rattle.rule_arena.specs.declared.label.Label.TheVariants.{Bottom, Symbol, Call, Param}
use Rattle.slt_grammar.specs.declared.digram.Digram.{Digram}
use Rattle.border_repair.specs.SameEdges.{is_same}
use Rattle.border_repair.specs.declared.edge.Edge.{Edge}

-- how often an edge was counted
abbrev pub counted_edge : List (Edge × ℕ) → Edge → ℕ
counted_edge es x = unwrap_or (lookup (is_same x) es) 0

-- how often an edge from a label was, where that is a symbol
abbrev pub counted_under : List (Edge × ℕ) → Label → ℕ → Label → ℕ
counted_under es Bottom i l = 0
counted_under es (Symbol f) i l = counted_edge es (record { upper = f; place = i; lower = l })
counted_under es (Call q) i l = 0
counted_under es Param i l = 0

-- how often a digram was
abbrev pub counted : List (Edge × ℕ) → Digram → ℕ
counted es d = counted_under es d.upper d.place d.lower

-- an edge as a digram
abbrev pub digram_of : Edge → Digram
digram_of x = record { upper = Symbol x.upper; place = x.place; lower = x.lower }
