-- Values that are the same but for one term.
use Rattle.std.specs.Prelude.{◌≡◌, ℕ, List, [], ◌∷◌, sum_by}
use Rattle.rule_arena.specs.declared.label.Label.{Label}
use Rattle.slt_grammar.specs.Grammars.{value}
use Rattle.slt_grammar.specs.Segments.{listed, segment}
use Rattle.slt_grammar.specs.Terms.{Term, Hole, holes_of, substitute}
use Rattle.slt_grammar.specs.declared.rules.Rule.{Rule}

-- what stands before the hole of a term, in preorder, weighs so much
abbrev pub hole_at : (Label → ℕ) → Term → ℕ
hole_at w C = sum_by w (segment 0 (listed C []))

-- The values of two grammars are one but for what stands at this number of weighed labels: there the first has this term and the second
-- that. By node_weight it is the number of a node, by all_weight a place.
pub record DifferThere (w : Label → ℕ) (G H : List Rule) (n : ℕ) (this that : Term) : Type 0 where
  pub around : Term
  pub once : holes_of around ≡ Hole 0 ∷ []
  pub before : hole_at w around ≡ n
  pub first : value G ≡ substitute around (this ∷ [])
  pub second : value H ≡ substitute around (that ∷ [])
