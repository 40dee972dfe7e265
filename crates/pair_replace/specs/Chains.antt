-- Occurrences of one digram, and which of them share no node.
use Rattle.std.specs.Prelude.{◌≡◌, ◌≢◌, ◌≤◌, ◌+◌, ℕ, List, [], ◌∷◌, length, Option, Some, None}
use Rattle.slt_grammar.specs.declared.digram.Digram.{Digram}
use Rattle.digram_index.specs.Digrams.{Cell}
use Rattle.digram_index.specs.Linked.{Linked, cell}

-- an occurrence of the digram is linked, whose lower node has this number
abbrev pub IsLinkedAs : Linked → Digram → ℕ → Type 0
IsLinkedAs I d k = (o : Cell) × ((cell I k ≡ Some o) × (o.digram ≡ d))

abbrev pub upper_of : Option Cell → ℕ
upper_of None = 0
upper_of (Some o) = o.upper

-- the number of the upper node of a linked occurrence
abbrev pub upper_at : Linked → ℕ → ℕ
upper_at I k = upper_of (cell I k)

-- an occurrence of the digram is linked, and its upper node is the lower node of no other
pub record IsHead (I : Linked) (d : Digram) (k : ℕ) : Type 0 where
  pub linked : IsLinkedAs I d k
  pub first : IsLinkedAs I d (upper_at I k) → ⊥

-- two linked occurrences share no node
pub record ShareNoNode (I : Linked) (a b : ℕ) : Type 0 where
  pub lows : a ≢ b
  pub highs : upper_at I a ≢ upper_at I b
  pub down : a ≢ upper_at I b
  pub back : upper_at I a ≢ b

abbrev pub SharesNoNode : Linked → ℕ → List ℕ → Type 0
SharesNoNode I a [] = Unit {0}
SharesNoNode I a (b ∷ bs) = ShareNoNode I a b × SharesNoNode I a bs

-- these are linked occurrences of the digram, no two of which share a node
abbrev pub AreApart : Linked → Digram → List ℕ → Type 0
AreApart I d [] = Unit {0}
AreApart I d (k ∷ ks) = IsLinkedAs I d k × (SharesNoNode I k ks × AreApart I d ks)

-- so many of them share no node
abbrev pub HasApartLinked : Linked → Digram → ℕ → Type 0
HasApartLinked I d least = (ks : List ℕ) × (AreApart I d ks × (least ≤ length ks))

-- no more than so many of them share no node
abbrev pub HasNoMoreApart : Linked → Digram → ℕ → Type 0
HasNoMoreApart I d most = (ks : List ℕ) → AreApart I d ks → length ks ≤ most

-- of those that share no node all but so many are left
abbrev pub LeavesApart : Linked → Linked → Digram → ℕ → Type 0
LeavesApart I J d gone = (ks : List ℕ) → AreApart I d ks → (js : List ℕ) × (AreApart J d js × (length ks ≤ length js + gone))
