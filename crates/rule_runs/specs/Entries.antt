-- What the table of a run upward tells.
use Rattle.std.specs.Prelude.{◌≡◌, ◌&&◌, ℕ, Bool, nat_eq, List, Some, All, length, map, slice_get, slice_range}
use Rattle.std.specs.Cmp.Lexicographic.{pointwise}
use Rattle.arrayvec.specs.ArrayVec.{ArrayVec}
use Rattle.rule_runs.specs.Reached.{RuleStates}
use Rattle.rule_runs.specs.Spans.{LiesWithin}
use Rattle.rule_runs.specs.Tables.{IsIndexed}
use Rattle.rule_runs.specs.declared.memo.Entry.{Entry}
use Rattle.rule_runs.specs.declared.memo.Pair.{Pair}

-- what a pair says
abbrev pub key_of : {S : Type 0} → Pair S → RuleStates S
key_of p = (p.rule, p.states.items)

-- whether pairs are equal, by what tells whether states are
abbrev pub are_equal : {S : Type 0} → (S → S → Bool) → Pair S → Pair S → Bool
are_equal E p q = nat_eq p.rule q.rule && pointwise E p.states.items q.states.items

-- what an entry says, where the states of all arguments stand in one list
abbrev pub entry_of : {S : Type 0} → List S → Entry S → RuleStates S × S
entry_of states e = ((e.rule, slice_range states e.arguments.begin e.arguments.end), e.state)

abbrev pub entries_of : {S : Type 0} → List S → List (Entry S) → List (RuleStates S × S)
entries_of states = map (entry_of states)

-- the states of an entry's arguments stand among so many
abbrev pub IsEntryWithin : {S : Type 0} → ℕ → Entry S → Type 0
IsEntryWithin count e = LiesWithin count e.arguments

-- the entry at a place is this pair's
abbrev pub StandsAs : {S : Type 0} → List (RuleStates S × S) → ℕ → Pair S → Type 0
StandsAs {S} known place p = (x : S) × (slice_get known place ≡ Some (key_of p, x))

-- the states of the entries' arguments stand in the list, and the index finds the entries
pub record IsMemo {S : Type 0} (E : S → S → Bool) (few : ℕ) (states : List S) (entries : List (Entry S)) (first : List (ArrayVec ℕ)) (others : List (Pair S × ℕ)) : Type 0 where
  pub within : All (IsEntryWithin (length states)) entries
  pub indexed : IsIndexed (are_equal E) (λ p. p.rule) few (StandsAs (entries_of states entries)) first others
