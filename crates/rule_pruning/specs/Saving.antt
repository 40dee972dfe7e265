-- What a rule saves.
use Rattle.std.specs.Prelude.{ℕ, ℤ, pos, ◌-ℤ◌, ◌*ℤ◌, ◌<◌, ◌+◌, List, length}
use Rattle.slt_grammar.specs.Bodies.{real_nodes}
use Rattle.slt_grammar.specs.Digrams.{Saves}
use Rattle.slt_grammar.specs.Grammars.{body_at, calls_of}
use Rattle.slt_grammar.specs.declared.rules.Rule.{Rule}

-- how many nodes more there would be without a rule, each call of which gives way to its body: of s nodes that are no parameters
-- each of r calls would bring s - 1, and the body's own s would go
abbrev pub saving_of : List Rule → ℕ → ℤ
saving_of G r = (pos (calls_of G r) *ℤ (pos (real_nodes (body_at G r)) -ℤ pos 1)) -ℤ pos (real_nodes (body_at G r))

-- every rule but the start saves nodes
abbrev pub AllSave : List Rule → Type 0
AllSave G = (r : ℕ) → r + 1 < length G → Saves G r
