-- Automata that run downward, and their run over a term without calls.
use Rattle.std.specs.Prelude.{◌≡◌, ℕ, suc, ◌+◌, List, [], ◌∷◌, ◌++◌, false, if◌then◌else◌}
use Rattle.slt_grammar.specs.Algebras.{Algebra}
use Rattle.slt_grammar.specs.Terms.{Term, Leaf, Node, Hole, up}
use Rattle.slt_grammar.specs.declared.automata.Fell.{Fell}

-- the down state of the root, and what happens at a symbol with a down state, by the up states of its two children
pub record Downward (S D : Type 0) : Type 0 where
  pub start : D
  pub step : ℕ → D → S → S → Fell D

-- nothing is hit from such a down state on: each step hits nothing and hands it on
abbrev pub IsSpent : {S D : Type 0} → Downward S D → D → Type 0
IsSpent {S} W d = (f : ℕ) (k r : S) → W.step f d k r ≡ record { hit = false; left = d; right = d }

module _ {S D : Type 0} (A : Algebra S) (W : Downward S D) where
  -- the down states that a run hands to the holes of a term, from left to right
  abbrev pub handed : Term → List S → D → List D
  handed Leaf states d = []
  handed (Hole i) states d = d ∷ []
  handed (Node f a b) states d =
      let s = W.step f d (up A a states) (up A b states) in
      handed a states s.left ++ handed b states s.right

-- how many nodes a term has, without bottoms and holes
abbrev pub nodes_in : Term → ℕ
nodes_in Leaf = 0
nodes_in (Hole i) = 0
nodes_in (Node f a b) = suc (nodes_in a + nodes_in b)

module _ {S D : Type 0} (A : Algebra S) (W : Downward S D) where
  -- the numbers of the nodes that are hit, rising, where the root has this number and this down state
  abbrev pub hits_from : ℕ → Term → List S → D → List ℕ
  hits_from number Leaf states d = []
  hits_from number (Hole i) states d = []
  hits_from number (Node f a b) states d =
      let s = W.step f d (up A a states) (up A b states) in
      (if s.hit then number ∷ [] else []) ++ (hits_from (suc number) a states s.left ++ hits_from (suc number + nodes_in a) b states s.right)

  -- the numbers of the nodes of a whole term that are hit
  abbrev pub hits : Term → List ℕ
  hits t = hits_from 0 t [] W.start
