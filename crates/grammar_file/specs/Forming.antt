-- Bodies and rules of a file, each told by the rules before it.
use Rattle.std.specs.Prelude.{ℕ, ◌≤◌, ◌<◌, List, [], ◌∷◌, ◌++◌, length}
use Rattle.slt_grammar.specs.Algebras.{ranks_of}
use Rattle.slt_grammar.specs.Bodies.{IsTerm, CallsBelow}
use Rattle.slt_grammar.specs.Names.{NodeLabel, Bottom, Symbol, Call, Param}
use Rattle.slt_grammar.specs.declared.rules.Rule.{Rule}

-- a symbol is the place of one of so many names, a call that of one of so many rules
abbrev pub IsPlaced : ℕ → ℕ → NodeLabel → Type 0
IsPlaced names rules Bottom = Unit {0}
IsPlaced names rules Param = Unit {0}
IsPlaced names rules (Symbol f) = f < names
IsPlaced names rules (Call q) = q < rules

-- one term, whose calls name the rules before
pub record IsBody (before : List Rule) (body : List NodeLabel) : Type 0 where
  pub term : IsTerm (ranks_of before) body
  pub earlier : CallsBelow (length before) body

-- and the rank is allowed
pub record IsRule (before : List Rule) (R : Rule) : Type 0 where
  pub small : R.rank ≤ 8
  pub body : IsBody before R.body

-- each of these rules behind those before it
abbrev pub AreFormed : List Rule → List Rule → Type 0
AreFormed before [] = Unit {0}
AreFormed before (R ∷ Rs) = IsRule before R × AreFormed (before ++ R ∷ []) Rs
