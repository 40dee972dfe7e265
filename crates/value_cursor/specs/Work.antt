-- How much a cursor or a search still has to do at most.
use Rattle.std.specs.Prelude.{ℕ, ◌+◌, ◌*◌, ◌-◌, ◌^◌, List, [], ◌∷◌, Option, Some, None, length}
use Rattle.slt_grammar.specs.Grammars.{whole}
use Rattle.slt_grammar.specs.Keyed.{KeyedRule, rules_of}
use Rattle.preorder_address.specs.declared.descent.RuleStop.{RuleStop}
use Rattle.value_cursor.specs.Stops.{stops_of}
use Rattle.value_cursor.specs.declared.cursor.Cursor.{Cursor}

-- more than the stops of a rule's tour
abbrev pub width : List KeyedRule → ℕ
width G = 2 * whole (rules_of G) + 1

-- the work of a stop of a rule is more than that of any tour of an earlier rule
abbrev pub work_in : List KeyedRule → RuleStop → ℕ → ℕ
work_in G s stops = stops * width G ^ s.rule

-- behind calls
abbrev pub work_behind : List KeyedRule → List RuleStop → ℕ
work_behind G [] = 0
work_behind G (s ∷ ss) = work_in G s (length (stops_of G s) - 1) + work_behind G ss

-- from a stop on, and then behind the calls
abbrev pub work_at : List KeyedRule → Option RuleStop → List RuleStop → ℕ
work_at G None calls = work_behind G calls
work_at G (Some s) calls = work_in G s (length (stops_of G s)) + work_behind G calls

abbrev pub work_of : List KeyedRule → Cursor → ℕ
work_of G c = work_at G c.here c.calls.items
