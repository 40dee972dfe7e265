-- Runs of nodes of the start.
use Rattle.std.specs.Prelude.{◌≡◌, ℕ, ◌+◌, ◌-◌, ◌≤◌, List, length, Some}
use Rattle.rule_arena.specs.declared.key.Key.{Key}
use Rattle.slt_grammar.specs.Keyed.{KeyedRule, key_at}

abbrev pub start_of : List KeyedRule → ℕ
start_of G = length G - 1

-- one node of the start stands so many places behind another
pub record IsRun (G : List KeyedRule) (from to : Key) : Type 0 where
  pub place : ℕ
  pub more : ℕ
  pub first : key_at G (start_of G) place ≡ Some from
  pub last : key_at G (start_of G) (place + more) ≡ Some to

-- a node of the start from a place on, at most so many places behind it, has this number
pub record IsBetween (G : List KeyedRule) (place more n : ℕ) : Type 0 where
  pub at : ℕ
  pub key : Key
  pub few : at ≤ more
  pub there : key_at G (start_of G) (place + at) ≡ Some key
  pub named : key.number ≡ n
