-- What stays of the start before the node at which a grammar changes.
use Rattle.std.specs.Prelude.{◌≡◌, ℕ, ◌-◌, ◌≤◌, List, Option, Some, option_map, option_to_list, length, slice_get}
use Rattle.plain_tree.specs.declared.kind.Kind.{Kind}
use Rattle.rule_arena.specs.declared.key.Key.{Key}
use Rattle.slt_grammar.specs.Keyed.{KeyedRule, key_at}
use Rattle.slt_grammar.specs.declared.level.Level.{Level}
use Rattle.preorder_address.specs.Marks.{AreMarks, IsSameBefore}
use Rattle.preorder_address.specs.declared.marks.Mark.{Mark}

-- the key of the first level's node
abbrev pub first_key : List Level → Option Key
first_key levels = option_map (λ l. l.key) (slice_get levels 0)

abbrev pub first_keys : List Level → List Key
first_keys levels = option_to_list (first_key levels)

-- the starts of G and H are the same before the node of the first level
pub record IsSameBeforeFirst (levels : List Level) (G H : List KeyedRule) : Type 0 where
  pub place : ℕ
  pub first : first_key levels ≡ key_at G (length G - 1) place
  pub same : IsSameBefore place G H

-- and in that of H the key stands there or behind
pub record StandsBehindFirst (levels : List Level) (G H : List KeyedRule) (key : Key) : Type 0 where
  pub place : ℕ
  pub first : first_key levels ≡ key_at G (length G - 1) place
  pub same : IsSameBefore place G H
  pub later : ℕ
  pub there : key_at H (length H - 1) later ≡ Some key
  pub behind : place ≤ later

-- what are marks of each start that is the same before the first level's node are marks of H's
abbrev pub KeepsMarks : List Level → List KeyedRule → List KeyedRule → Type 0
KeepsMarks levels G H = (names : List (Kind × List ℕ)) (marks : List Mark) → ((K : List KeyedRule) → IsSameBeforeFirst levels G K → AreMarks names K marks) → AreMarks names H marks
