-- Terms that begin with a rule's body and become calls.
use Rattle.std.specs.Prelude.{◌≡◌, ◌+◌, ℕ, List, Some}
use Rattle.rule_arena.specs.declared.key.Key.{Key}
use Rattle.slt_grammar.specs.Calling.{BeginsWith}
use Rattle.slt_grammar.specs.Keyed.{KeyedRule, key_at, nodes_at}
use Rattle.digram_index.specs.Copies.{Meets}

-- a number is that of a node of the body with which the term begins, or of what stands in a parameter's place
abbrev pub IsOfBody : (G : List KeyedRule) (at : Key) (rule : ℕ) (arguments : List Key) → BeginsWith G at rule arguments → ℕ → Type 0
IsOfBody G at rule arguments B n = (t : ℕ) × ((key : Key) × (Meets (nodes_at G rule) B.args t × ((key_at G B.here.rule (B.here.place + t) ≡ Some key) × (key.number ≡ n))))
