-- The ranks of rules.
use Rattle.std.specs.Prelude.{ℕ, max, List, [], ◌∷◌}
use Rattle.slt_grammar.specs.declared.rules.Rule.{Rule}

-- the greatest rank of a rule
abbrev pub greatest_rank : List Rule → ℕ
greatest_rank [] = 0
greatest_rank (R ∷ Rs) = max R.rank (greatest_rank Rs)
