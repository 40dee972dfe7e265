-- What a run upward has found.
use Rattle.std.specs.Prelude.{◌≡◌, ◌≢◌, ℕ, ◌-◌, ◌<◌, ◌≤◌, List, [], ◌∷◌, ◌++◌, length, get_or, map, slice_get, Option, Some, All, AllPairs}
use Rattle.rule_arena.specs.declared.label.Label.TheVariants.{Call}
use Rattle.slt_grammar.specs.Algebras.{Algebra, all_meanings}
use Rattle.slt_grammar.specs.Grammars.{rank_at, body_at}
use Rattle.rule_runs.specs.Reached.{RuleStates, Uses, argument_states}
use Rattle.slt_grammar.specs.declared.rules.Rule.{Rule}
use Rattle.rule_runs.specs.declared.notes.Note.{Note}

-- a rule with a state for each of its arguments
pub record IsPair {S : Type 0} (G : List Rule) (k : RuleStates S) : Type 0 where
  pub there : k.0 < length G
  pub args : length k.1 ≡ rank_at G k.0

-- what an algebra makes of a rule at states of its arguments
abbrev pub state_at : {S : Type 0} → Algebra S → List Rule → RuleStates S → S
state_at A G k = get_or (all_meanings A G) k.0 (λ _. A.bottom) k.1

-- the pairs of a table
abbrev pub keys : {S : Type 0} → List (RuleStates S × S) → List (RuleStates S)
keys = map (λ e. e.0)

-- the pair at a place
abbrev pub pair_at : {S : Type 0} → List (RuleStates S) → ℕ → RuleStates S
pair_at ks i = get_or ks i (0, [])

-- the table has the pair
abbrev pub IsKnown : {S : Type 0} → List (RuleStates S × S) → RuleStates S → Type 0
IsKnown known k = (i : ℕ) × (slice_get (keys known) i ≡ Some k)

-- the calls of a pair's body from a place on are known
abbrev pub AreKnown : {S : Type 0} → Algebra S → List Rule → List (RuleStates S × S) → RuleStates S → ℕ → Type 0
AreKnown A G known k from = (place q : ℕ) → from ≤ place → slice_get (body_at G k.0) place ≡ Some (Call q) → IsKnown known (q, argument_states A G q k.1 (body_at G k.0) place)

-- the states of different pairs that a run meets, the start's last
pub record IsRun {S : Type 0} (A : Algebra S) (G : List Rule) (known : List (RuleStates S × S)) : Type 0 where
  pub right : All (λ e. e.1 ≡ state_at A G e.0) known
  pub pairs : All (IsPair G) (keys known)
  pub met : All (λ k. Uses S A G k.0 k.1) (keys known)
  pub distinct : AllPairs (λ p q. p ≢ q) (keys known)
  pub closed : All (λ k. AreKnown A G known k 0) (keys known)
  pub start : (before : List (RuleStates S)) × (keys known ≡ before ++ (length G - 1, []) ∷ [])

-- the table of a run upward, and the bodies that it noted, by the places of their pairs
pub record Risen (S : Type 0) : Type 0 where
  pub known : List (RuleStates S × S)
  pub top : S
  pub kept : List (Option (List (Note S)))
