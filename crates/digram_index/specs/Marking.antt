-- Marks and numbers that stay while a grammar changes: a marked node has stood since it was marked, and a rule with the same number has the
-- same value.
use Rattle.std.specs.Prelude.{◌≡◌, ◌<◌, ◌≤◌, ◌-◌, ◌⊎◌, ℕ, List, Some, IsTrue, length}
use Rattle.rule_arena.specs.declared.key.Key.{Key}
use Rattle.slt_grammar.specs.Editing.{shifted}
use Rattle.slt_grammar.specs.Grammars.{value_at}
use Rattle.slt_grammar.specs.Keyed.{KeyedRule, key_at, rules_of}
use Rattle.start_fronts.specs.Before.{StandsBehindSame}
use Rattle.digram_index.specs.Linked.{Linked, is_marked, number_at}

-- a node of the start has this number
pub record IsInStart (G : List KeyedRule) (k : ℕ) : Type 0 where
  pub key : Key
  pub place : ℕ
  pub there : key_at G (length G - 1) place ≡ Some key
  pub number : key.number ≡ k

-- what is marked stands in the start
abbrev pub MarksStart : List KeyedRule → Linked → Type 0
MarksStart G I = (k : ℕ) → IsTrue (is_marked I k) → IsInStart G k

-- what is marked was marked before
abbrev pub MarksNoMore : Linked → Linked → Type 0
MarksNoMore old new = (k : ℕ) → IsTrue (is_marked new k) → IsTrue (is_marked old k)

-- what is marked was marked before, and no rule came or went
pub record MarksFewer (old new : Linked) : Type 0 where
  pub fewer : MarksNoMore old new
  pub numbers : new.numbers ≡ old.numbers
  pub given : old.given ≤ new.given

-- a rule came, with a number that was never given, and the others keep theirs
pub record HasNumberMore (place : ℕ) (old new : Linked) : Type 0 where
  pub fresh : old.given ≤ number_at new place
  pub numbers : (r : ℕ) → number_at new (shifted place r) ≡ number_at old r
  pub given : old.given ≤ new.given

-- a rule went, and the others keep their numbers
pub record HasNumberLess (place : ℕ) (old new : Linked) : Type 0 where
  pub numbers : (r : ℕ) → number_at new r ≡ number_at old (shifted place r)
  pub given : old.given ≤ new.given

-- a rule was there before, with the same number and the same value
pub record HasStayed (G : List KeyedRule) (I : Linked) (H : List KeyedRule) (J : Linked) (now : ℕ) : Type 0 where
  pub before : ℕ
  pub there : before < length G
  pub number : number_at J now ≡ number_at I before
  pub value : value_at (rules_of H) now ≡ value_at (rules_of G) before

-- each rule has stayed, or has a number that wasn't given before
pub record KeepsRules (G : List KeyedRule) (I : Linked) (H : List KeyedRule) (J : Linked) : Type 0 where
  pub each : (r : ℕ) → r < length H → HasStayed G I H J r ⊎ (I.given ≤ number_at J r)
  pub given : I.given ≤ J.given

-- what is marked was marked before, and of the start's nodes each that is marked still stands there, behind the same labels; each rule has
-- stayed or is new
pub record KeepsMarked (G : List KeyedRule) (I : Linked) (H : List KeyedRule) (J : Linked) : Type 0 where
  pub fewer : MarksNoMore I J
  pub stays : (key : Key) (place : ℕ) → key_at G (length G - 1) place ≡ Some key → IsTrue (is_marked J key.number) → StandsBehindSame G H place key
  pub rules : KeepsRules G I H J
