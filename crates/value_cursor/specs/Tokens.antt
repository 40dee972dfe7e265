-- Tokens of labels and of trees.
use Rattle.std.specs.Prelude.{◌≡◌, ℕ, suc, ◌-◌, List, [], ◌∷◌, ◌++◌, Some, slice_get, nat_lt, if◌then◌else◌}
use Rattle.plain_tree.specs.declared.kind.Kind.{Kind}
use Rattle.plain_tree.specs.Tree.{Tree, node, Trees, none, more}
use Rattle.rule_arena.specs.declared.label.Label.{Label}
use Rattle.rule_arena.specs.declared.label.Label.TheVariants.{Bottom, Symbol, Call, Param}
use Rattle.value_cursor.specs.declared.cursor.Token.{Token}
use Rattle.value_cursor.specs.declared.cursor.Token.TheVariants.{Open, Close}

-- the tokens of labels where n nodes are open, until none is: a symbol opens a node, and a bottom closes one
abbrev pub tokens : ℕ → List Label → List Token
tokens n [] = []
tokens n (Symbol f ∷ ls) = Open f ∷ tokens (suc n) ls
tokens n (Bottom ∷ ls) = Close ∷ (if nat_lt 1 n then tokens (n - 1) ls else [])
tokens n (Call q ∷ ls) = tokens n ls
tokens n (Param ∷ ls) = tokens n ls

abbrev mutual
  -- the tokens of a tree: open with the place of its pair among the names, the tokens of its kids, close
  pub Tells : List (Kind × List ℕ) → Tree → List Token → Type 0
  Tells names (node kind name value kids) ts =
      (symbol : ℕ) × (inner : List Token) × (slice_get names symbol ≡ Some (kind, name)) × TellsAll names kids inner × (ts ≡ Open symbol ∷ inner ++ Close ∷ [])

  pub TellsAll : List (Kind × List ℕ) → Trees → List Token → Type 0
  TellsAll names none ts = ts ≡ []
  TellsAll names (more t others) ts = (first : List Token) × (rest : List Token) × Tells names t first × TellsAll names others rest × (ts ≡ first ++ rest)
