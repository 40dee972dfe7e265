-- The laws of edits: what they keep of what stands before and behind the nodes of a grammar's start.
use Rattle.std.specs.Prelude.{◌≡◌, ◌≢◌, ℕ, ◌-◌, ◌<◌, List, [], ◌∷◌, ◌++◌, All, Some, length, map}
use Rattle.rule_arena.specs.Preorder.{subterm}
use Rattle.rule_arena.specs.Terms.{key_of, kids_of, labelled}
use Rattle.rule_arena.specs.declared.key.Key.{Key}
use Rattle.rule_arena.specs.declared.label.Label.{Label}
use Rattle.rule_arena.specs.declared.label.Label.TheVariants.{Call, Param, Symbol}
use Rattle.slt_grammar.specs.Algebras.{ranks_of}
use Rattle.slt_grammar.specs.Bodies.{CallsBelow, arity}
use Rattle.slt_grammar.specs.ChangedValues.{term_around}
use Rattle.slt_grammar.specs.Grammars.{value}
use Rattle.slt_grammar.specs.Keyed.{IsKeyed, Keyed, KeyedRule, key_at, nodes_at, rules_of}
use Rattle.slt_grammar.specs.KeyedEdits.{StandsInStart, lifted_nodes, rule_shared, with_nodes}
use Rattle.slt_grammar.specs.Segments.{listed, segment}
use Rattle.slt_grammar.specs.Wrapping.{IsInStart, IsWrapped, IsWrapper}
use Rattle.start_fronts.specs.Before.{KeepsBefore, labels_before}
use Rattle.start_fronts.specs.Moved.{MovesBefore, weight_before}

-- steps that keep the value come before a change, or behind it
abbrev pub KeepingThenMoving : Type 0
KeepingThenMoving =
    (w : Label → ℕ) (first second : List Key) (number : ℕ) (G H K : List KeyedRule)
    → value (rules_of H) ≡ value (rules_of G) → KeepsBefore first G H → MovesBefore w second number H K → MovesBefore w (first ++ second) number G K

abbrev pub MovingThenKeeping : Type 0
MovingThenKeeping =
    (w : Label → ℕ) (first second : List Key) (number : ℕ) (G H K : List KeyedRule)
    → value (rules_of K) ≡ value (rules_of H) → MovesBefore w first number G H → KeepsBefore second H K → MovesBefore w (first ++ second) number G K

-- where nothing changed, all stays, whatever the number
abbrev pub NothingMoves : Type 0
NothingMoves = (w : Label → ℕ) (gone : List Key) (number : ℕ) (g : Keyed) → IsKeyed g → MovesBefore w gone number g.rules g.rules

-- the keys that the start didn't have need not be told as gone
abbrev pub OldKeysGo : Type 0
OldKeysGo =
    (gone fewer : List Key) (G H : List KeyedRule)
    → ((key : Key) (place : ℕ) → key_at G (length G - 1) place ≡ Some key → All (λ k. k ≢ key) fewer → All (λ k. k ≢ key) gone)
    → KeepsBefore gone G H → KeepsBefore fewer G H

-- what stands before the hole of the term around a node of the start is what the tour passes before that node
abbrev pub HolesStandBehind : Type 0
HolesStandBehind =
    (g : Keyed) → IsKeyed g → (place : ℕ) → place < length (nodes_at g.rules (length g.rules - 1))
    → segment 0 (listed (term_around (rules_of g.rules) place) []) ≡ labels_before g.rules (length g.rules - 1) place

-- a node of the start gets another symbol
abbrev pub RelabellingMovesBefore : Type 0
RelabellingMovesBefore =
    (old new : Keyed) → IsKeyed old → IsKeyed new → (key : Key) (symbol : ℕ) (S : StandsInStart old.rules key)
    → new.rules ≡ with_nodes old.rules S.node.here.rule (labelled (nodes_at old.rules S.node.here.rule) S.node.here.place (Symbol symbol))
    → (w : Label → ℕ) → MovesBefore w [] (weight_before w old.rules S.node.here.place) old.rules new.rules

-- it gives way to its second child
abbrev pub LiftingMovesBefore : Type 0
LiftingMovesBefore =
    (old new : Keyed) → IsKeyed old → IsKeyed new → (key : Key) (S : StandsInStart old.rules key)
    → new.rules ≡ with_nodes old.rules S.node.here.rule (lifted_nodes (nodes_at old.rules S.node.here.rule) S.node.here.place)
    → (w : Label → ℕ) → MovesBefore w [] (weight_before w old.rules S.node.here.place) old.rules new.rules

-- no call has children
abbrev pub CallsAreLeaves : List ℕ → List Label → Type 0
CallsAreLeaves ranks [] = Unit {0}
CallsAreLeaves ranks (Call q ∷ ls) = (arity ranks (Call q) ≡ 0) × CallsAreLeaves ranks ls
CallsAreLeaves ranks (l ∷ ls) = CallsAreLeaves ranks ls

-- as in a body without calls
abbrev pub PlainBodiesHaveNone : Type 0
PlainBodiesHaveNone = (ranks : List ℕ) (body : List Label) → CallsBelow 0 body → CallsAreLeaves ranks body

-- a body is put around a node, which comes behind all else of it and under symbols alone
abbrev pub WrappingMovesBefore : Type 0
WrappingMovesBefore =
    (old new : Keyed) → IsKeyed old → IsKeyed new → (key : Key) (front body : List Label) (S : IsInStart old.rules key)
    → IsWrapper (rules_of old.rules) body → body ≡ front ++ (Param ∷ []) → CallsAreLeaves (ranks_of (rules_of old.rules)) body
    → IsWrapped old.rules new.rules S.here.rule S.here.place key body → (w : Label → ℕ) → MovesBefore w [] (weight_before w old.rules S.here.place) old.rules new.rules

-- a term becomes a rule of its own: the keys of its nodes are gone
abbrev pub SharingKeepsBefore : Type 0
SharingKeepsBefore =
    (old new : Keyed) → IsKeyed old → IsKeyed new → (key call : Key) (S : IsInStart old.rules key)
    → new.rules ≡ rule_shared old.rules S.here.rule S.here.place call
    → KeepsBefore (map key_of (subterm kids_of (nodes_at old.rules S.here.rule) S.here.place)) old.rules new.rules
