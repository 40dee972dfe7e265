-- Names that come to a table while nodes are renamed.
use Rattle.std.specs.Prelude.{◌≡◌, ℕ, List, [], ◌∷◌, true, false, All, Some, slice_get, ◌⊎◌}
use Rattle.plain_tree.specs.NodePairs.{Pair}
use Rattle.fcns_encoding.specs.Interning.{IsIn}
use Rattle.bulk_rewrite.specs.declared.refusing.Sign.{Sign}

-- a pair is the first of these that isn't in the table
abbrev pub FirstLacks : List Pair → List Pair → Pair → Type 0
FirstLacks names [] p = ⊥
FirstLacks names (q ∷ qs) p = (IsIn q names × FirstLacks names qs p) ⊎ ((q ≡ p) × (IsIn q names → ⊥))

-- these are in the table
abbrev pub AreIn : List Pair → List Pair → Type 0
AreIn names = All (λ p. IsIn p names)

-- a sign tells whether a pair's kind has the name in the table, and nothing of attributes
pub record TellsKnown (names : List Pair) (name : List ℕ) (p : Pair) (sign : Sign) : Type 0 where
  pub known : sign.allowed ≡ true → IsIn (p.0, name) names
  pub lacking : sign.allowed ≡ false → IsIn (p.0, name) names → ⊥
  pub silent : sign.attribute ≡ false

-- a symbol is that of a pair's kind with the name, where the table has it
abbrev pub IsRenamedSymbol : List Pair → List ℕ → Pair → ℕ → Type 0
IsRenamedSymbol names name p f = IsIn (p.0, name) names → slice_get names f ≡ Some (p.0, name)
