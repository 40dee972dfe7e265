-- How many nodes cutting makes.
use Rattle.std.specs.Prelude.{◌≡◌, ℕ, ◌+◌, ◌*◌, ◌≤◌, List, [], ◌∷◌, reverse, drop, Bool, false}
use Rattle.rule_arena.specs.declared.label.Label.{Label}
use Rattle.slt_grammar.specs.Bodies.{params, real_nodes}
use Rattle.slt_grammar.specs.Grammars.{size}
use Rattle.slt_grammar.specs.declared.rules.Rule.{Rule}
use Rattle.border_repair.specs.Expanding.{outside_at}
use Rattle.border_repair.specs.declared.cutting.Mark.{Mark}

-- how many marks are of parameters of the body
abbrev pub free : List Mark → ℕ
free [] = 0
free (m ∷ ms) = params (m.top ∷ []) + free ms

-- so many pieces were taken off: their parts went into rules, and each left one call at most
pub record AreOff (many : ℕ) (rules news : List Rule) (marks marks_now : List Mark) (parts parts_now args args_now : List Label) : Type 0 where
  pub left : reverse marks_now ≡ drop many (reverse marks)
  pub ruled : size news + real_nodes parts_now ≤ size rules + real_nodes parts
  pub called : real_nodes args_now ≤ real_nodes args + many

-- a label was read: the parts and rules grew by it at most, and a node outside, which comes with two calls at most, took a parameter, but for the root
pub record IsReadSmall (root : Bool) (label : Label) (rules news : List Rule) (marks marks_now : List Mark) (parts parts_now args args_now : List Label) : Type 0 where
  pub ruled : size news + real_nodes parts_now ≤ size rules + (real_nodes parts + real_nodes (label ∷ []))
  pub any : real_nodes args_now + 3 * free (reverse marks_now) ≤ real_nodes args + (3 * free (reverse marks) + (3 * params (label ∷ []) + 3))
  pub others : root ≡ false → real_nodes args_now + 3 * free (reverse marks_now) ≤ real_nodes args + (3 * free (reverse marks) + 3 * params (label ∷ []))

-- the rules of the parts have no more nodes than the body, and what is outside has few
pub record IsCutSmall (rules news : List Rule) (body outside : List Label) : Type 0 where
  pub ruled : size news ≤ size rules + real_nodes body
  pub few : real_nodes outside ≤ 3 * params body + 4

-- no outside has more than 28 nodes
abbrev pub AreSmall : List (List Label) → Type 0
AreSmall outsides = (q : ℕ) → real_nodes (outside_at outsides q) ≤ 28
