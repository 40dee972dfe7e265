-- The nodes whose occurrences a fold changes.
use Rattle.std.specs.Prelude.{◌≡◌, ◌≢◌, ◌⊎◌, ℕ, List, Some, slice_get}
use Rattle.rule_arena.specs.declared.key.Key.{Key}
use Rattle.slt_grammar.specs.Keyed.{KeyedRule}
use Rattle.slt_grammar.specs.KeyedEdits.{Stands}
use Rattle.digram_index.specs.Partly.{IsAmong}

-- a number is that of a node, or of a child of it or of one of its children
abbrev pub IsAround : Key → List Key → List Key → ℕ → Type 0
IsAround upper siblings children n = (n ≡ upper.number) ⊎ (IsAmong siblings n ⊎ IsAmong children n)

-- these keys stand in the grammar, but for one that may be gone
abbrev pub AreAround : List KeyedRule → List Key → Key → Type 0
AreAround G keys gone = (i : ℕ) (key : Key) → slice_get keys i ≡ Some key → key ≢ gone → Stands G key
