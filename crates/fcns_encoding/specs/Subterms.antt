-- The subterms of a term.
use Rattle.std.specs.Prelude.{◌≡◌, ℕ, ◌⊎◌, List, Some, slice_get}
use Rattle.slt_grammar.specs.Terms.{Term, Leaf, Node, Hole}

-- a term is itself one of its subterms, and so are those of the terms under its symbol
abbrev pub IsSubterm : Term → Term → Type 0
IsSubterm s Leaf = s ≡ Leaf
IsSubterm s (Node f a b) = (s ≡ Node f a b) ⊎ (IsSubterm s a ⊎ IsSubterm s b)
IsSubterm s (Hole i) = s ≡ Hole i

-- the list has each subterm of the term, and no other, and none twice
pub record AreSubterms (terms : List Term) (term : Term) : Type 0 where
  pub each : (s : Term) → IsSubterm s term → (i : ℕ) × (slice_get terms i ≡ Some s)
  pub only : (i : ℕ) (s : Term) → slice_get terms i ≡ Some s → IsSubterm s term
  pub once : (i j : ℕ) (s : Term) → slice_get terms i ≡ Some s → slice_get terms j ≡ Some s → i ≡ j
