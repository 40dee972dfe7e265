-- The place of bad XML.
use Rattle.std.specs.Prelude.{◌≡◌, ℕ, ◌≤◌, ◌<◌, List, [], ◌∷◌, ◌++◌, length, take, ◌⊎◌}
use Rattle.std.specs.List.{flat_map, AllByRecursion}
use Rattle.plain_tree.specs.Tree.{Tree, Trees}
use Rattle.plain_tree.specs.Lawful.{IsName}
use Rattle.xml_nodes.specs.Spelling.{Spells, SpellsList, SpellsValue}

-- </, the name, one space and >
abbrev pub ending_tag : List ℕ → List ℕ
ending_tag name = 60 ∷ 47 ∷ (name ++ 32 ∷ 62 ∷ [])

-- one of the three ends: nothing, <a/>, or any number of end tags
abbrev pub IsEnding : List ℕ → Type 0
IsEnding e = (e ≡ []) ⊎ (e ≡ 60 ∷ 97 ∷ 47 ∷ 62 ∷ []) ⊎ ((names : List (List ℕ)) × AllByRecursion IsName names × (e ≡ flat_map ending_tag names))

-- at is the greatest k such that P holds of the first k bytes
pub record IsGreatest (P : List ℕ → Type 0) (bytes : List ℕ) (at : ℕ) : Type 0 where
  pub within : at ≤ length bytes
  pub holds : P (take at bytes)
  pub greatest : (k : ℕ) → at < k → k ≤ length bytes → P (take k bytes) → ⊥

-- the bytes spell a document when an end follows them
abbrev pub IsOpen : List ℕ → Type 0
IsOpen bytes = (e : List ℕ) × (t : Tree) × IsEnding e × Spells (bytes ++ e) t

-- or a fragment
abbrev pub IsOpenList : List ℕ → Type 0
IsOpenList bytes = (e : List ℕ) × (nodes : Trees) × IsEnding e × SpellsList (bytes ++ e) nodes

-- the place of a bad document, of a bad fragment, and of a bad value
abbrev pub IsPlace : List ℕ → ℕ → Type 0
IsPlace bytes at = IsGreatest IsOpen bytes at

abbrev pub IsListPlace : List ℕ → ℕ → Type 0
IsListPlace bytes at = IsGreatest IsOpenList bytes at

abbrev pub IsValuePlace : List ℕ → ℕ → Type 0
IsValuePlace bytes at = IsGreatest (λ x. (value : List ℕ) × SpellsValue x value) bytes at
