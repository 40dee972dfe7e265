-- The values with which a query compares.
use Rattle.std.specs.Prelude.{ℕ, List, [], ◌∷◌, ◌++◌, Bool, nat_lt, length}
use Rattle.xpath_parser.specs.declared.postfix.Op.{Op}
use Rattle.xpath_parser.specs.declared.postfix.Op.TheVariants as ops
use Rattle.xpath_parser.specs.Meant.{part}
use Rattle.xpath_parser.specs.Queries.{Test, Star, Name, AnyNode, TextNode, CommentNode, InstructionNode, TextOf, NameOf, Steps, no_steps, step, Filters, no_filters, filter_and, Filter, Or, And, Not, True, False, Exists, Paths, no_paths, path_or}

-- only a comparison asks for a value
abbrev pub literals_of_test : Test → List (List ℕ)
literals_of_test Star = []
literals_of_test (Name n) = []
literals_of_test AnyNode = []
literals_of_test TextNode = []
literals_of_test CommentNode = []
literals_of_test InstructionNode = []
literals_of_test (TextOf v) = v ∷ []
literals_of_test (NameOf x v) = v ∷ []

-- in the query's order
abbrev mutual
  pub literals_of_steps : Steps → List (List ℕ)
  literals_of_steps no_steps = []
  literals_of_steps (step a t fs ss) = (literals_of_test t ++ literals_of_filters fs) ++ literals_of_steps ss

  pub literals_of_filters : Filters → List (List ℕ)
  literals_of_filters no_filters = []
  literals_of_filters (filter_and f fs) = literals_of_filter f ++ literals_of_filters fs

  pub literals_of_filter : Filter → List (List ℕ)
  literals_of_filter (Or f g) = literals_of_filter f ++ literals_of_filter g
  literals_of_filter (And f g) = literals_of_filter f ++ literals_of_filter g
  literals_of_filter (Not f) = literals_of_filter f
  literals_of_filter True = []
  literals_of_filter False = []
  literals_of_filter (Exists ps) = literals_of ps

  pub literals_of : Paths → List (List ℕ)
  literals_of no_paths = []
  literals_of (path_or ss ps) = literals_of_steps ss ++ literals_of ps

-- whether a comparison stands in a query
abbrev pub paths_compare : Paths → Bool
paths_compare ps = nat_lt 0 (length (literals_of ps))

-- the values of all comparisons among operations, of which the last stands first
abbrev pub literals_told : List ℕ → List Op → List (List ℕ)
literals_told b [] = []
literals_told b (ops.Compare c v ∷ o) = literals_told b o ++ part b v ∷ []
literals_told b (_ ∷ o) = literals_told b o
