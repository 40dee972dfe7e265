-- What is wrong with a list of rules that is no swept grammar, by the first fault in the order of examination.
use Rattle.std.specs.Prelude.{◌≡◌, ◌≢◌, ℕ, ◌+◌, ◌<◌, ◌⊎◌, List, length}
use Rattle.slt_grammar.specs.Bodies.{params, CallsBelow}
use Rattle.slt_grammar.specs.Grammars.{body_at, rank_at, IsShapedAt, IsLawfulAt, IsGrammar, calls_of}
use Rattle.slt_grammar.specs.declared.rules.Rule.{Rule}
use Rattle.slt_grammar.specs.declared.checking.GrammarError.{GrammarError}
use Rattle.slt_grammar.specs.declared.checking.GrammarError.TheVariants.{Rank, Linear, Order, Unused, Memory}

-- the rules before this one are lawful
pub record IsReached (G : List Rule) (r : ℕ) : Type 0 where
  pub there : r < length G
  pub before : (q : ℕ) → q < r → IsLawfulAt G q

-- the rules are a grammar, and this is the first but the last that is not called
pub record IsUnused (G : List Rule) (r : ℕ) : Type 0 where
  pub grammar : IsGrammar G
  pub there : r + 1 < length G
  pub uncalled : calls_of G r ≡ 0
  pub first : (q : ℕ) → q < r → 0 < calls_of G q

-- the cause of each answer
abbrev pub Shows : List Rule → GrammarError → Type 0
Shows G (Order r) = IsReached G r × (CallsBelow r (body_at G r) → ⊥)
Shows G (Rank r) = ((length G ≡ 0) × (r ≡ 0)) ⊎ (IsReached G r × CallsBelow r (body_at G r) × (IsShapedAt G r → ⊥))
Shows G (Linear r) = IsReached G r × CallsBelow r (body_at G r) × IsShapedAt G r × (params (body_at G r) ≢ rank_at G r)
Shows G (Unused r) = IsUnused G r
Shows G Memory = Unit {0}
