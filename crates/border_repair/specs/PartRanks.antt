-- How many parameters the rules of parts have.
use Rattle.std.specs.Prelude.{◌≡◌, ◌⊎◌, ◌+◌, ◌≤◌, max, List, [], ◌∷◌, reverse, Bool, true}
use Rattle.rule_arena.specs.declared.label.Label.{Label}
use Rattle.slt_grammar.specs.Bodies.{params}
use Rattle.slt_grammar.specs.Ranks.{greatest_rank}
use Rattle.slt_grammar.specs.declared.rules.Rule.{Rule}
use Rattle.border_repair.specs.declared.cutting.Mark.{Mark}

-- the piece on top is a term alone
abbrev pub IsTopBare : List Mark → Type 0
IsTopBare [] = ⊥
IsTopBare (m ∷ ms) = m.bare ≡ true

-- the rules of parts that were taken off have no more parameters than all parts had, nor have those that are left
pub record AreRanked (rules news : List Rule) (parts parts_now : List Label) : Type 0 where
  pub ruled : greatest_rank news ≤ max (params parts) (greatest_rank rules)
  pub left : params parts_now ≤ params parts

-- a label was read: the parts have no more parameters by it than it has, but for a root outside, which is a term alone
pub record IsReadRanked (root : Bool) (label : Label) (rules news : List Rule) (marks_now : List Mark) (parts parts_now : List Label) : Type 0 where
  pub ruled : greatest_rank news ≤ max (params parts) (greatest_rank rules)
  pub left : (params parts_now ≤ params parts + params (label ∷ [])) ⊎ ((root ≡ true) × IsTopBare (reverse marks_now))
