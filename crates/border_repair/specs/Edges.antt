-- Edges of bodies between symbols, and edges with a call on one side, by the rims of the called rules.
use Rattle.std.specs.Prelude.{◌≡◌, ◌⊎◌, ℕ, ◌+◌, List, [], ◌∷◌, ◌++◌, map, Option, Some, Bool, true, false}
use Rattle.rule_arena.specs.declared.label.Label.{Label}
use Rattle.rule_arena.specs.declared.label.Label.TheVariants.{Bottom, Symbol, Call, Param}
use Rattle.border_repair.specs.Weighing.{Scale, Above, hung, Rim}

-- nothing weighs anything there
abbrev pub IsSafe : Scale → Above → Type 0
IsSafe e c = (l : Option Label) → hung e c l ≡ 0

-- the label weighs nothing anywhere
abbrev pub IsHarmless : Scale → Option Label → Type 0
IsHarmless e l = (c : Above) → hung e c l ≡ 0

abbrev pub no_flags : List Above → List Bool
no_flags = map (λ c. false)

module _ (e : Scale) (s : ℕ → Rim) where
  -- what is above the children of a node, and whether it is the node itself
  abbrev pub kid_tops : Label → List Above
  kid_tops Bottom = []
  kid_tops (Symbol f) = Some (f, 1) ∷ Some (f, 2) ∷ []
  kid_tops (Call q) = (s q).borders
  kid_tops Param = []

  abbrev pub kid_flags : Label → List Bool
  kid_flags Bottom = []
  kid_flags (Symbol f) = true ∷ true ∷ []
  kid_flags (Call q) = no_flags ((s q).borders)
  kid_flags Param = []

  -- an edge weighs nothing, or both its nodes are symbols of the body
  abbrev pub IsOpenEdge : Above → Bool → Label → Type 0
  IsOpenEdge c b Bottom = (b ≡ true) ⊎ (hung e c (Some Bottom) ≡ 0)
  IsOpenEdge c b (Symbol f) = (b ≡ true) ⊎ (hung e c (Some (Symbol f)) ≡ 0)
  IsOpenEdge c b (Call q) = hung e c ((s q).root) ≡ 0
  IsOpenEdge c b Param = Unit {0}

  -- and an edge to a parameter is under a symbol, or nothing weighs anything there
  abbrev pub IsCleanEdge : Above → Bool → Label → Type 0
  IsCleanEdge c b Param = (b ≡ true) ⊎ IsSafe e c
  IsCleanEdge c b l = IsOpenEdge c b l

  -- all edges of terms, where these are above the terms
  abbrev pub AreEdges : (Above → Bool → Label → Type 0) → List Above → List Bool → List Label → Type 0
  AreEdges P [] [] [] = Unit {0}
  AreEdges P (c ∷ cs) (b ∷ bs) (l ∷ ls) = P c b l × AreEdges P (kid_tops l ++ cs) (kid_flags l ++ bs) ls
  AreEdges P cs bs ls = ⊥

  abbrev pub Calm : List Above → List Bool → List Label → Type 0
  Calm = AreEdges IsOpenEdge

  abbrev pub Clean : List Above → List Bool → List Label → Type 0
  Clean = AreEdges IsCleanEdge

  -- what is above the parameters of terms
  abbrev pub tops_of : List Above → List Label → List Above
  tops_of cs [] = []
  tops_of [] (l ∷ ls) = []
  tops_of (c ∷ cs) (Param ∷ ls) = c ∷ tops_of cs ls
  tops_of (c ∷ cs) (l ∷ ls) = tops_of (kid_tops l ++ cs) ls

  -- a term that may stand anywhere under a symbol
  abbrev pub IsCleanTerm : List Label → Type 0
  IsCleanTerm t = (c : Above) → Clean (c ∷ []) (true ∷ []) t

  -- the nodes that weigh under a symbol of the body
  abbrev pub flagged : Bool → ℕ → ℕ
  flagged true n = n
  flagged false n = 0

  abbrev pub direct_at : Above → Bool → Label → ℕ
  direct_at c b Bottom = flagged b (hung e c (Some Bottom))
  direct_at c b (Symbol f) = flagged b (hung e c (Some (Symbol f)))
  direct_at c b (Call q) = 0
  direct_at c b Param = 0

  abbrev pub weighs_at : Above → Label → ℕ
  weighs_at c Bottom = hung e c (Some Bottom)
  weighs_at c (Symbol f) = hung e c (Some (Symbol f))
  weighs_at c (Call q) = hung e c ((s q).root)
  weighs_at c Param = 0

  abbrev pub direct : List Above → List Bool → List Label → ℕ
  direct (c ∷ cs) (b ∷ bs) (l ∷ ls) = direct_at c b l + direct (kid_tops l ++ cs) (kid_flags l ++ bs) ls
  direct cs bs ls = 0

  abbrev pub all_edges : List Above → List Label → ℕ
  all_edges (c ∷ cs) (l ∷ ls) = weighs_at c l + all_edges (kid_tops l ++ cs) ls
  all_edges cs ls = 0
