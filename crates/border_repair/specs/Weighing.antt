-- What the nodes of a term weigh by their parents: each node by the symbol above it, its place under it, and its own label.
use Rattle.std.specs.Prelude.{◌≡◌, ℕ, ◌+◌, ◌<◌, List, [], ◌∷◌, ◌++◌, length, Option, Some, None}
use Rattle.rule_arena.specs.declared.label.Label.{Label}
use Rattle.rule_arena.specs.declared.label.Label.TheVariants.{Bottom, Symbol, Call, Param}
use Rattle.slt_grammar.specs.Algebras.{Algebra}
use Rattle.slt_grammar.specs.Grammars.{body_at, value}
use Rattle.slt_grammar.specs.Terms.{up}
use Rattle.slt_grammar.specs.declared.rules.Rule.{Rule}

-- what a node weighs under a symbol, at a place from 1 on
abbrev pub Scale : Type 0
Scale = ℕ → ℕ → Label → ℕ

-- the symbol above, and the place under it, where it is known
abbrev pub Above : Type 0
Above = Option (ℕ × ℕ)

-- what a root weighs under what is above it
abbrev pub hung : Scale → Above → Option Label → ℕ
hung e None l = 0
hung e (Some (f, i)) None = 0
hung e (Some (f, i)) (Some l) = e f i l

-- what a term has at its root, and what the nodes below it weigh
pub record Weighed : Type 0 where
  pub root : Option Label
  pub weight : ℕ

abbrev pub weight_algebra : Scale → Algebra Weighed
weight_algebra e = record {
  bottom = record { root = Some Bottom; weight = 0 };
  node = λ f x y. record { root = Some (Symbol f); weight = hung e (Some (f, 1)) x.root + (hung e (Some (f, 2)) y.root + (x.weight + y.weight)) };
}

-- what the nodes of a grammar's value weigh
abbrev pub weight : Scale → List Rule → ℕ
weight e G = (up (weight_algebra e) (value G) []).weight

-- what is known of a rule's value: the label of its root, where it is no parameter, and what is above each parameter, where it is no root
pub record Rim : Type 0 where
  pub root : Option Label
  pub borders : List Above

-- what is above each parameter where this is above the root
abbrev pub under : Above → List Above → List Above
under c [] = []
under c (None ∷ bs) = c ∷ under c bs
under c (Some a ∷ bs) = Some a ∷ under c bs

-- what is above is known everywhere
abbrev pub AreKnown : List Above → Type 0
AreKnown [] = Unit {0}
AreKnown (None ∷ bs) = ⊥
AreKnown (Some a ∷ bs) = AreKnown bs

abbrev pub first_of : Option Label → Option Label → Option Label
first_of None l = l
first_of (Some k) l = Some k

module _ (rims : ℕ → Rim) where
  -- the label at the root of the first term of labels
  abbrev pub root_from : List Label → Option Label
  root_from [] = None
  root_from (Bottom ∷ ls) = Some Bottom
  root_from (Symbol f ∷ ls) = Some (Symbol f)
  root_from (Call q ∷ ls) = first_of (rims q).root (root_from ls)
  root_from (Param ∷ ls) = None

  -- what is above each parameter of terms, where these are above the terms
  abbrev pub borders_from : List Above → List Label → List Above
  borders_from cs [] = []
  borders_from [] (l ∷ ls) = []
  borders_from (c ∷ cs) (Bottom ∷ ls) = borders_from cs ls
  borders_from (c ∷ cs) (Symbol f ∷ ls) = borders_from (Some (f, 1) ∷ Some (f, 2) ∷ cs) ls
  borders_from (c ∷ cs) (Call q ∷ ls) = borders_from (under c (rims q).borders ++ cs) ls
  borders_from (c ∷ cs) (Param ∷ ls) = c ∷ borders_from cs ls

  -- what the nodes weigh that hang in these terms, and not inside a call
  abbrev pub arisen : Scale → List Above → List Label → ℕ
  arisen e cs [] = 0
  arisen e [] (l ∷ ls) = 0
  arisen e (c ∷ cs) (Bottom ∷ ls) = hung e c (Some Bottom) + arisen e cs ls
  arisen e (c ∷ cs) (Symbol f ∷ ls) = hung e c (Some (Symbol f)) + arisen e (Some (f, 1) ∷ Some (f, 2) ∷ cs) ls
  arisen e (c ∷ cs) (Call q ∷ ls) = hung e c (rims q).root + arisen e (under c (rims q).borders ++ cs) ls
  arisen e (c ∷ cs) (Param ∷ ls) = arisen e cs ls

  -- the rim of a body over those of the rules before it
  abbrev pub rim_of : List Label → Rim
  rim_of body = record { root = root_from body; borders = borders_from (None ∷ []) body }

  -- what is above the children of a node, where this is above it
  abbrev pub below : Above → Label → List Above
  below c Bottom = []
  below c (Symbol f) = Some (f, 1) ∷ Some (f, 2) ∷ []
  below c (Call q) = under c (rims q).borders
  below c Param = []

  -- the label of the root of what a node stands for, where that is no parameter
  abbrev pub shown_root : Label → Option Label
  shown_root Bottom = Some Bottom
  shown_root (Symbol f) = Some (Symbol f)
  shown_root (Call q) = (rims q).root
  shown_root Param = None

-- what the called rules weigh together, where each weighs this
abbrev pub called : (ℕ → ℕ) → List Label → ℕ
called ws [] = 0
called ws (Call q ∷ ls) = ws q + called ws ls
called ws (l ∷ ls) = called ws ls

-- each rule's rim is that of its body
abbrev pub AreRims : List Rule → (ℕ → Rim) → Type 0
AreRims G rims = (r : ℕ) → r < length G → rims r ≡ rim_of rims (body_at G r)

-- what terms weigh under what is above them
abbrev pub hung_all : Scale → List Above → List Weighed → ℕ
hung_all e [] ss = 0
hung_all e (c ∷ cs) [] = 0
hung_all e (c ∷ cs) (s ∷ ss) = hung e c s.root + (s.weight + hung_all e cs ss)
