-- How often rules are used, and what arises in them each time.
use Rattle.std.specs.Prelude.{ℕ, zero, suc, ◌+◌, ◌*◌, List, [], if◌then◌else◌, eqb, None, ◌∷◌}
use Rattle.slt_grammar.specs.Bodies.{calls_in}
use Rattle.slt_grammar.specs.Grammars.{body_at}
use Rattle.slt_grammar.specs.declared.rules.Rule.{Rule}
use Rattle.border_repair.specs.Weighing.{Scale, Rim, arisen}

-- the start is used once
abbrev pub start_used : ℕ → ℕ → ℕ
start_used start r = if eqb r start then 1 else 0

-- each use of a rule uses what its body calls
abbrev pub used_with : List Rule → ℕ → (ℕ → ℕ) → ℕ → ℕ
used_with G r used q = used q + used r * calls_in q (body_at G r)

-- what arises in the rules before one, where each is used as often as this says
abbrev pub arises_before : Scale → List Rule → (ℕ → Rim) → ℕ → (ℕ → ℕ) → ℕ
arises_before e G rims zero used = 0
arises_before e G rims (suc r) used = used r * arisen rims e (None ∷ []) (body_at G r) + arises_before e G rims r (used_with G r used)
