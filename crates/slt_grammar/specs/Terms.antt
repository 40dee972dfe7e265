-- Terms without calls, with numbered holes for parameters.
use Rattle.std.specs.Prelude.{ℕ, zero, suc, List, [], ◌∷◌, ◌++◌, get_or}
use Rattle.slt_grammar.specs.Algebras.{Algebra}

pub data Term : Type 0 where
  Leaf : Term
  Node : (symbol : ℕ) → Term → Term → Term
  Hole : (number : ℕ) → Term

-- each hole has its argument in its place
abbrev pub substitute : Term → List Term → Term
substitute Leaf args = Leaf
substitute (Node f a b) args = Node f (substitute a args) (substitute b args)
substitute (Hole i) args = get_or args i Leaf

-- the holes with count numbers, from one on
abbrev pub holes : ℕ → ℕ → List Term
holes from zero = []
holes from (suc count) = Hole from ∷ holes (suc from) count

-- the holes of a term from left to right
abbrev pub holes_of : Term → List Term
holes_of Leaf = []
holes_of (Node f a b) = holes_of a ++ holes_of b
holes_of (Hole i) = Hole i ∷ []

-- terms as meanings
abbrev pub term_algebra : Algebra Term
term_algebra = record { bottom = Leaf; node = Node }

-- what an algebra makes of a term, with meanings for its holes
abbrev pub up : {S : Type 0} → Algebra S → Term → List S → S
up A Leaf args = A.bottom
up A (Node f a b) args = A.node f (up A a args) (up A b args)
up A (Hole i) args = get_or args i A.bottom
