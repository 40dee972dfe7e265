-- Chains of calls of the start that are inlined one after another.
use Rattle.std.specs.Prelude.{◌≡◌, ◌≢◌, ℕ, ◌+◌, ◌-◌, List, [], ◌∷◌, Some, length}
use Rattle.rule_arena.specs.declared.key.Key.{Key}
use Rattle.rule_arena.specs.declared.label.Label.TheVariants.{Param}
use Rattle.slt_grammar.specs.Keyed.{IsKeyed, Keyed, KeyedRule, key_at}
use Rattle.slt_grammar.specs.KeyedEdits.{IsInlined, StandsAsCall, label_at}
use Rattle.start_fronts.specs.Before.{KeepsBefore}

-- what stands before the nodes of the start is kept, but for the first node; and this key is the first node's or none of the start's
pub record KeepsButFirst (G H : List KeyedRule) (first here : Key) : Type 0 where
  pub keeps : KeepsBefore (first ∷ []) G H
  pub new : (key : Key) (place : ℕ) → key_at G (length G - 1) place ≡ Some key → first ≢ key → here ≢ key

abbrev pub IsolatingBegins : Type 0
IsolatingBegins = (G : List KeyedRule) (first : Key) → KeepsButFirst G G first first

-- the call with this key is inlined, and the copy of a node of its rule's body is the next one
abbrev pub IsolatingGoesOn : Type 0
IsolatingGoesOn =
    (G : List KeyedRule) (old new : Keyed) (first here : Key) → KeepsButFirst G old.rules first here → IsKeyed old → IsKeyed new
    → (C : StandsAsCall old.rules here) → C.here.rule + 1 ≡ length old.rules
    → (follow moved : Key) → IsInlined old.rules new.rules C.here.rule C.here.place C.called follow moved
    → (j : ℕ) → key_at old.rules C.called j ≡ Some follow → label_at old.rules C.called j ≢ Param → KeepsButFirst G new.rules first moved
