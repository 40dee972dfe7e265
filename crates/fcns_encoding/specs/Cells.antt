-- The table of subterms: each is a symbol over two subterms that stand earlier. Number 0 is bottom, number k + 1 the cell at k.
use Rattle.std.specs.Prelude.{◌≡◌, ℕ, ◌+◌, ◌*◌, ◌^◌, ◌<◌, ◌≤◌, ◌⊎◌, List, [], ◌∷◌, ◌++◌, Some, length, slice_get, get_or}
use Rattle.slt_grammar.specs.Terms.{Term, Leaf, Node}
use Rattle.fcns_encoding.specs.declared.subterms.Cell.{Cell}

-- what is hashed of a cell: its three numbers
abbrev pub cell_code : Cell → ℕ
cell_code c = (c.symbol * 2 ^ 32 + c.first) * 2 ^ 32 + c.second

-- What all numbers have, one after another, where a cell's is made of its own number, the cell and what its two numbers have: behind
-- that of the numbers before.
abbrev pub numbered_after : {X : Type 0} → X → (ℕ → Cell → X → X → X) → List X → List Cell → List X
numbered_after none make before [] = before
numbered_after none make before (c ∷ cs) =
    numbered_after none make (before ++ make (length before) c (get_or before c.first none) (get_or before c.second none) ∷ []) cs

-- what all numbers have, where bottom has this
abbrev pub numbered : {X : Type 0} → X → (ℕ → Cell → X → X → X) → List Cell → List X
numbered none make cells = numbered_after none make (none ∷ []) cells

-- a cell's term is its symbol over the terms of its numbers
abbrev pub term_of : ℕ → Cell → Term → Term → Term
term_of number c first second = Node c.symbol first second

-- the terms of all numbers
abbrev pub terms_of : List Cell → List Term
terms_of cells = numbered Leaf term_of cells

-- the term of a number, bottom where there is none
abbrev pub term_at : List Cell → ℕ → Term
term_at cells number = get_or (terms_of cells) number Leaf

-- a cell stands over earlier numbers
abbrev pub AreEarlier : List Cell → Type 0
AreEarlier cells = (i : ℕ) (c : Cell) → slice_get cells i ≡ Some c → (c.first ≤ i) × (c.second ≤ i)

-- no cell stands twice
abbrev pub AreDistinctCells : List Cell → Type 0
AreDistinctCells cells = (i j : ℕ) (c : Cell) → slice_get cells i ≡ Some c → slice_get cells j ≡ Some c → i ≡ j

-- what is true of every table
pub record AreCells (cells : List Cell) : Type 0 where
  pub earlier : AreEarlier cells
  pub distinct : AreDistinctCells cells

-- each number keeps its term
abbrev pub KeepsTerms : List Cell → List Cell → Type 0
KeepsTerms old new = (i : ℕ) (t : Term) → slice_get (terms_of old) i ≡ Some t → slice_get (terms_of new) i ≡ Some t

-- a number is that of a cell, which was in the table or came to its end
pub record Extends (old : List Cell) (c : Cell) (number : ℕ) (new : List Cell) : Type 0 where
  pub place : ℕ
  pub is : number ≡ place + 1
  pub stands : slice_get new place ≡ Some c
  pub way : (new ≡ old) ⊎ ((new ≡ old ++ c ∷ []) × (place ≡ length old))

-- a cell uses the number
abbrev pub IsUsed : List Cell → ℕ → Type 0
IsUsed cells number = (i : ℕ) × (c : Cell) × (slice_get cells i ≡ Some c) × ((c.first ≡ number) ⊎ (c.second ≡ number))

-- each number of a cell is used by a cell or is one of these
abbrev pub AreUsed : List Cell → List ℕ → Type 0
AreUsed cells others = (k : ℕ) → k < length cells → IsUsed cells (k + 1) ⊎ ((i : ℕ) × (slice_get others i ≡ Some (k + 1)))
