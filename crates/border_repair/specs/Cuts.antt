-- The pieces of a body that is cut, and what hangs where, so that no edge with a call on one side weighs anything.
use Rattle.std.specs.Prelude.{◌≡◌, ◌≢◌, ◌<◌, ℕ, List, [], ◌∷◌, ◌++◌, length, get_or, Bool, true, false, Some, None}
use Rattle.rule_arena.specs.declared.label.Label.{Label}
use Rattle.rule_arena.specs.declared.label.Label.TheVariants.{Call, Param}
use Rattle.slt_grammar.specs.Algebras.{ranks_of}
use Rattle.slt_grammar.specs.Bodies.{IsTerm}
use Rattle.slt_grammar.specs.Grammars.{body_at}
use Rattle.slt_grammar.specs.declared.digram.Digram.{Digram}
use Rattle.slt_grammar.specs.declared.rules.Rule.{Rule}
use Rattle.slt_grammar.proofs.Substitutions.{joined}
use Rattle.border_repair.specs.Digrams.{is, IsEnd}
use Rattle.border_repair.specs.Edges.{IsSafe, no_flags, kid_tops, kid_flags, IsCleanEdge, Calm, Clean, IsCleanTerm, tops_of}
use Rattle.border_repair.specs.Splitting.{Piece, bare, HasFront}
use Rattle.border_repair.specs.Weighing.{Scale, Above, AreKnown, Rim, AreRims, hung}

-- a piece: a parameter, an outer node over terms, or a part and the terms in the places of its parameters
pub data Cut : Type 0 where
  parameter : Cut
  outer : (label : Label) (below : List Label) → Cut
  inner : (label : Label) (part args : List Label) → Cut

abbrev pub top : Cut → Label
top parameter = Param
top (outer l t) = l
top (inner l part args) = l

abbrev pub part_of : Cut → List Label
part_of parameter = Param ∷ []
part_of (outer l t) = Param ∷ []
part_of (inner l part args) = l ∷ part

abbrev pub args_of : Cut → List Label
args_of parameter = Param ∷ []
args_of (outer l t) = l ∷ t
args_of (inner l part args) = args

abbrev pub parts_of : List Cut → List Label
parts_of [] = []
parts_of (k ∷ ks) = part_of k ++ parts_of ks

abbrev pub all_args_of : List Cut → List Label
all_args_of [] = []
all_args_of (k ∷ ks) = args_of k ++ all_args_of ks

-- the piece as a part and its arguments
abbrev pub IsCutOf : Piece → Cut → Type 0
IsCutOf p parameter = p ≡ bare (Param ∷ [])
IsCutOf p (outer l t) = p ≡ bare (l ∷ t)
IsCutOf p (inner l part args) = (l ≢ Param) × (p.part ≡ l ∷ part) × (joined p.args ≡ args)

abbrev pub AreCutsOf : List Piece → List Cut → Type 0
AreCutsOf [] [] = Unit {0}
AreCutsOf [] (k ∷ ks) = ⊥
AreCutsOf (p ∷ ps) [] = ⊥
AreCutsOf (p ∷ ps) (k ∷ ks) = IsCutOf p k × AreCutsOf ps ks

module _ (e : Scale) (s : ℕ → Rim) where
  -- no edge of the piece with a call on one side weighs anything
  abbrev pub Fine : Cut → Type 0
  Fine parameter = Unit {0}
  Fine (outer l t) = IsEnd l × Clean e s (kid_tops e s l) (kid_flags e s l) t
  Fine (inner l part args) =
      (l ≢ Param) × Calm e s (kid_tops e s l) (kid_flags e s l) part
      × Clean e s (tops_of e s (kid_tops e s l) part) (no_flags (tops_of e s (kid_tops e s l) part)) args

  -- nor does the edge above it
  abbrev pub Hangs : Above → Bool → Cut → Type 0
  Hangs c b k = Fine k × IsCleanEdge e s c b (top k)

  abbrev pub AllHang : List Above → List Bool → List Cut → Type 0
  AllHang [] [] [] = Unit {0}
  AllHang [] [] (k ∷ ks) = ⊥
  AllHang [] (b ∷ bs) ks = ⊥
  AllHang (c ∷ cs) [] ks = ⊥
  AllHang (c ∷ cs) (b ∷ bs) [] = ⊥
  AllHang (c ∷ cs) (b ∷ bs) (k ∷ ks) = Hangs c b k × AllHang cs bs ks

  -- the term in place of a piece, where this is above it
  abbrev pub Closed : Above → Cut → List Label → Type 0
  Closed c parameter t = t ≡ Param ∷ []
  Closed c (outer l u) t = t ≡ l ∷ u
  Closed c (inner l part args) t = (q : ℕ) × (hung e c ((s q).root) ≡ 0) × ((s q).borders ≡ tops_of e s (kid_tops e s l) part) × (t ≡ Call q ∷ args)

  abbrev pub AllClosed : List Above → List Cut → List (List Label) → Type 0
  AllClosed [] [] [] = Unit {0}
  AllClosed (c ∷ cs) (k ∷ ks) (t ∷ ts) = Closed c k t × AllClosed cs ks ts
  AllClosed cs ks ts = ⊥

-- a piece whose part is a parameter stays under a node of a part only where it weighs nothing
abbrev pub SafeParameter : Scale → Above → Cut → Type 0
SafeParameter e c parameter = IsSafe e c
SafeParameter e c (outer l t) = hung e c (Some l) ≡ 0
SafeParameter e c (inner l part args) = Unit {0}

abbrev pub AreSafeParameters : Scale → List Above → List Cut → Type 0
AreSafeParameters e (c ∷ cs) (k ∷ ks) = SafeParameter e c k × AreSafeParameters e cs ks
AreSafeParameters e cs ks = Unit {0}

-- the rims of rules, none of which is its parameter alone
pub record ShowRims (G : List Rule) (s : ℕ → Rim) : Type 0 where
  pub are : AreRims G s
  pub known : (q : ℕ) → AreKnown ((s q).borders)
  pub many : (q : ℕ) → q < length G → length ((s q).borders) ≡ get_or (ranks_of G) q 0
  pub roots : (q : ℕ) → (l : Label) × ((s q).root ≡ Some l)

-- labels are clean by the rims of rules: as a term under any symbol, and somewhere
abbrev pub IsCleanOver : Digram → List Rule → List Label → Type 0
IsCleanOver d G t = (s : ℕ → Rim) → ShowRims G s → IsCleanTerm (is d) s t

abbrev pub AreCleanOver : Digram → List Rule → List Label → Type 0
AreCleanOver d G ls = (s : ℕ → Rim) → ShowRims G s → (cs : List Above) × (bs : List Bool) × Clean (is d) s cs bs ls

-- pieces hang wherever the labels that they are of are clean
abbrev pub HangOver : Digram → List Rule → List Label → List Cut → Type 0
HangOver d G ls ks = (s : ℕ → Rim) → ShowRims G s → (cs : List Above) (bs : List Bool) → Clean (is d) s cs bs ls → AllHang (is d) s cs bs ks

-- a body is calm by the rims of rules
abbrev pub IsCalmOver : Digram → List Rule → List Label → Type 0
IsCalmOver d G body = (s : ℕ → Rim) → ShowRims G s → Calm (is d) s (None ∷ []) (true ∷ []) body

abbrev pub AllCalmOver : Digram → List Rule → List Piece → Type 0
AllCalmOver d G [] = Unit {0}
AllCalmOver d G (p ∷ ps) = IsCalmOver d G p.part × AllCalmOver d G ps

-- no rule is its parameter alone, and all but the first one are terms, whatever rules come behind, and calm
pub record AreCalm (d : Digram) (G : List Rule) : Type 0 where
  pub fronts : (r : ℕ) → r < length G → HasFront (body_at G r)
  pub terms : (r : ℕ) → 0 < r → r < length G → (more : List Rule) → IsTerm (ranks_of (G ++ more)) (body_at G r)
  pub calm : (r : ℕ) → 0 < r → r < length G → IsCalmOver d G (body_at G r)

-- which nodes are outer: below the root only upper ones, and no part of the root begins with the lower label
abbrev pub AreChosen : Digram → Bool → List Cut → Type 0
AreChosen d false [] = Unit {0}
AreChosen d false (parameter ∷ ks) = AreChosen d false ks
AreChosen d false (outer l t ∷ ks) = (l ≡ d.upper) × AreChosen d false ks
AreChosen d false (inner l part args ∷ ks) = AreChosen d false ks
AreChosen d true [] = Unit {0}
AreChosen d true (parameter ∷ ks) = Unit {0}
AreChosen d true (outer l t ∷ ks) = Unit {0}
AreChosen d true (inner l part args ∷ ks) = l ≢ d.lower
