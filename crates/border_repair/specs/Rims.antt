-- The rims of rules, and what is above the nodes of a body, as the code holds them.
use Rattle.std.specs.Prelude.{◌≡◌, ℕ, List, [], length, get_or, None}
use Rattle.slt_grammar.specs.declared.rules.Rule.{Rule}
use Rattle.border_repair.specs.Weighing.{Rim, AreRims}

-- where no rule is
abbrev pub no_rim : Rim
no_rim = record { root = None; borders = [] }

abbrev pub rim_at : List Rim → ℕ → Rim
rim_at rims r = get_or rims r no_rim

-- the rims of all rules
pub record AreRimsOf (G : List Rule) (rims : List Rim) : Type 0 where
  pub many : length rims ≡ length G
  pub each : AreRims G (rim_at rims)
