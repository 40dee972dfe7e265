-- Nodes that are hit, by their numbers and symbols.
use Rattle.std.specs.Prelude.{ℕ, ◌+◌, List, [], ◌∷◌, ◌++◌, map}
use Rattle.slt_grammar.specs.Terms.{Term, Leaf, Node, Hole}
use Rattle.rule_runs.specs.declared.listing.Hit.{Hit}

-- the numbers of hits
abbrev pub numbers : List Hit → List ℕ
numbers = map (λ h. h.number)

-- a hit whose number is raised
abbrev pub raised : ℕ → Hit → Hit
raised from h = record { number = from + h.number; symbol = h.symbol }

-- the symbols of a term in preorder; bottoms and holes have none
abbrev pub symbols_in : Term → List ℕ
symbols_in Leaf = []
symbols_in (Hole i) = []
symbols_in (Node f a b) = f ∷ symbols_in a ++ symbols_in b
