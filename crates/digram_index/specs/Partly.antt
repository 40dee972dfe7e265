-- An index that has some occurrences of a grammar.
use Rattle.std.specs.Prelude.{◌≡◌, ◌≢◌, ◌⊎◌, ℕ, List, length, Some, None, slice_get}
use Rattle.rule_arena.specs.declared.key.Key.{Key}
use Rattle.slt_grammar.specs.Keyed.{Keyed, KeyedRule, key_at}
use Rattle.slt_grammar.specs.KeyedEdits.{Stands}
use Rattle.digram_index.specs.Digrams.{occurrence_at}
use Rattle.digram_index.specs.Linked.{Linked, cell}

-- the index has what the grammar has at the node
abbrev pub IsRight : List KeyedRule → Linked → Key → Type 0
IsRight G I key = (r p : ℕ) → key_at G r p ≡ Some key → cell I key.number ≡ occurrence_at G r p

-- a number is that of one of these keys
abbrev pub IsAmong : List Key → ℕ → Type 0
IsAmong keys n = (i : ℕ) × ((key : Key) × ((slice_get keys i ≡ Some key) × (key.number ≡ n)))

-- the index has occurrences of the grammar at their nodes, and nothing else
pub record IsPartOf (G : Keyed) (I : Linked) : Type 0 where
  pub rules : I.rules ≡ length G.rules
  pub part : (r p : ℕ) (key : Key) → key_at G.rules r p ≡ Some key → (cell I key.number ≡ None) ⊎ (cell I key.number ≡ occurrence_at G.rules r p)
  pub only : (k : ℕ) → cell I k ≢ None → (key : Key) × (Stands G.rules key × (key.number ≡ k))
