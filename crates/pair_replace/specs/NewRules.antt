-- A rule that was made of a digram.
use Rattle.std.specs.Prelude.{◌≡◌, ◌+◌, ◌-◌, ◌^◌, ◌≤◌, ◌<◌, ℕ, [], ◌∷◌, List, length, insert, Some}
use Rattle.rule_arena.specs.declared.key.Key.{Key}
use Rattle.rule_arena.specs.declared.label.Label.{Label}
use Rattle.rule_arena.specs.declared.label.Label.TheVariants.{Call}
use Rattle.slt_grammar.specs.Algebras.{ranks_of}
use Rattle.slt_grammar.specs.Bodies.{arity, calls_in, CallsBelow}
use Rattle.slt_grammar.specs.Digrams.{digram_rank}
use Rattle.slt_grammar.specs.Editing.{shifted}
use Rattle.slt_grammar.specs.Grammars.{body_at, calls_of, value_at}
use Rattle.slt_grammar.specs.Keyed.{KeyedRule, key_at, rules_of}
use Rattle.slt_grammar.specs.KeyedEdits.{digram_body, rule_put}
use Rattle.slt_grammar.specs.declared.digram.Digram.{Digram}
use Rattle.slt_grammar.specs.declared.rules.Rule.{Rule}
use Rattle.digram_index.specs.Digrams.{Cell, occurrence_at}

-- a label that calls no rule, or one of a place that a machine can count
abbrev pub IsSmall : Label → Type 0
IsSmall label = (q : ℕ) → label ≡ Call q → q + 1 < 2 ^ 64

-- the digram over parameters was put among the rules as a rule of its own: behind the rules that its labels call, so that they keep
-- their places and the body has just these labels, with so many parameters as the digram has children; all other ranks stay
pub record IsRuleOf (G H : List Rule) (d : Digram) (rule : ℕ) : Type 0 where
  pub behind : CallsBelow rule (d.upper ∷ d.lower ∷ [])
  pub body : body_at H rule ≡ digram_body (ranks_of G) d.upper (d.place - 1) d.lower
  pub ranks : ranks_of H ≡ insert (ranks_of G) rule (digram_rank G d)

-- the rule's body is the digram over parameters, it stands before all others that have the digram, and this is the lower one of its two nodes
pub record IsNewRule (G : List KeyedRule) (d : Digram) (rule : ℕ) (lower : Key) : Type 0 where
  pub there : key_at G rule d.place ≡ Some lower
  pub alone : (p : ℕ) (key : Key) (o : Cell) → key_at G rule p ≡ Some key → occurrence_at G rule p ≡ Some o → key ≡ lower
  pub body : body_at (rules_of G) rule ≡ digram_body (ranks_of (rules_of G)) d.upper (d.place - 1) d.lower
  pub before : (r : ℕ) → r < length G → CallsBelow r (d.upper ∷ d.lower ∷ []) → rule ≤ r

-- a rule of the digram over parameters, which is not called, was put before the one at a place; the others keep their values
pub record IsAdded (G H : List KeyedRule) (d : Digram) (place : ℕ) : Type 0 where
  pub there : place < length G
  pub below : CallsBelow place (d.upper ∷ d.lower ∷ [])
  pub made : IsRuleOf (rules_of G) (rules_of H) d place
  pub rule : KeyedRule
  pub rules : H ≡ rule_put G place rule
  pub many : length H ≡ length G + 1
  pub first : 1 ≤ d.place
  pub last : d.place ≤ arity (ranks_of (rules_of H)) d.upper
  pub body : body_at (rules_of H) place ≡ digram_body (ranks_of (rules_of H)) d.upper (d.place - 1) d.lower
  pub uncalled : calls_of (rules_of H) place ≡ 0
  pub calls : (q : ℕ) → calls_of (rules_of H) (shifted place q) ≡ calls_of (rules_of G) q + calls_in q (d.upper ∷ d.lower ∷ [])
  pub values : (q : ℕ) → q < length G → value_at (rules_of H) (shifted place q) ≡ value_at (rules_of G) q
