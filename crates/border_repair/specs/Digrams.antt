-- How often a digram occurs in a value.
use Rattle.std.specs.Prelude.{◌≡◌, ◌≢◌, ◌⊎◌, ◌<◌, ◌≤◌, ◌+◌, ◌-◌, ◌&&◌, ℕ, List, [], eqb, if◌then◌else◌, Bool, true, false}
use Rattle.rule_arena.specs.declared.label.Label.{Label}
use Rattle.rule_arena.specs.declared.label.Label.TheVariants.{Bottom, Symbol, Call, Param}
use Rattle.slt_grammar.specs.Bodies.{arity}
use Rattle.slt_grammar.specs.declared.digram.Digram.{Digram}
use Rattle.slt_grammar.specs.declared.rules.Rule.{Rule}
use Rattle.border_repair.specs.Weighing.{Scale, weight}

abbrev pub same_label : Label → Label → Bool
same_label Bottom Bottom = true
same_label Bottom (Symbol g) = false
same_label Bottom (Call p) = false
same_label Bottom Param = false
same_label (Symbol f) Bottom = false
same_label (Symbol f) (Symbol g) = eqb f g
same_label (Symbol f) (Call p) = false
same_label (Symbol f) Param = false
same_label (Call q) Bottom = false
same_label (Call q) (Symbol g) = false
same_label (Call q) (Call p) = eqb q p
same_label (Call q) Param = false
same_label Param Bottom = false
same_label Param (Symbol g) = false
same_label Param (Call p) = false
same_label Param Param = true

-- a node weighs one where it and its parent are the digram
abbrev pub is : Digram → Scale
is d f i l = if same_label d.upper (Symbol f) && (eqb d.place i && same_label d.lower l) then 1 else 0

-- how many nodes of a grammar's value have the upper label and, as their child at the digram's place, a node with the lower one
abbrev pub occurrences : Digram → List Rule → ℕ
occurrences d G = weight (is d) G

-- how many parameters a rule for the digram would have, where neither label is a call
abbrev pub rank_of : Digram → ℕ
rank_of d = arity [] d.upper + arity [] d.lower - 1

abbrev pub IsSymbol : Label → Type 0
IsSymbol l = (f : ℕ) × (l ≡ Symbol f)

-- a symbol or a bottom
abbrev pub IsEnd : Label → Type 0
IsEnd l = IsSymbol l ⊎ (l ≡ Bottom)

-- a symbol over another one or over bottom, whose rule would have a rank within the bound
pub record IsCandidate (bound : ℕ) (d : Digram) : Type 0 where
  pub upper : IsSymbol d.upper
  pub lower : IsEnd d.lower
  pub small : rank_of d ≤ bound
  pub apart : d.upper ≢ d.lower

-- a candidate that is there, and none weighs more
pub record IsTop (weights : Digram → ℕ) (bound : ℕ) (d : Digram) : Type 0 where
  pub candidate : IsCandidate bound d
  pub some : 0 < weights d
  pub most : (other : Digram) → IsCandidate bound other → weights other ≤ weights d
