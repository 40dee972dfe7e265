-- Nodes of two grammars that stand for the same.
use Rattle.std.specs.Prelude.{◌≡◌, ℕ, List, [], ◌∷◌}
use Rattle.rule_arena.specs.Terms.{Node}
use Rattle.slt_grammar.specs.Segments.{part_of}
use Rattle.slt_grammar.specs.declared.rules.Rule.{Rule}

-- a node of G and one of H with one key and as many children, whose labels stand for the same
pub record IsAlike (G H : List Rule) (n m : Node) : Type 0 where
  pub key : m.key ≡ n.key
  pub kids : m.kids ≡ n.kids
  pub parts : (i : ℕ) → part_of H m.label i ≡ part_of G n.label i

-- as many nodes, each like the other at its place
abbrev pub AreAlike : List Rule → List Rule → List Node → List Node → Type 0
AreAlike G H [] [] = Unit {0}
AreAlike G H [] (m ∷ ms) = ⊥
AreAlike G H (n ∷ ns) [] = ⊥
AreAlike G H (n ∷ ns) (m ∷ ms) = IsAlike G H n m × AreAlike G H ns ms
