-- How all pairs of a digram in a body become calls of the digram's rule.
use Rattle.std.specs.Prelude.{◌≡◌, ◌≢◌, ◌+◌, ◌≤◌, ◌<◌, ℕ, suc, List, [], ◌∷◌, ◌++◌, length, reverse, Option, Some, None}
use Rattle.rule_arena.specs.Preorder.{AreTerms}
use Rattle.rule_arena.specs.declared.label.Label.{Label}
use Rattle.rule_arena.specs.declared.label.Label.TheVariants.{Call, Param}
use Rattle.slt_grammar.specs.Algebras.{ranks_of}
use Rattle.slt_grammar.specs.Bodies.{arity, IsTerm}
use Rattle.slt_grammar.specs.Grammars.{body_at, rank_at}
use Rattle.slt_grammar.specs.declared.rules.Rule.{Rule}
use Rattle.slt_grammar.specs.declared.digram.Digram.{Digram}
use Rattle.slt_grammar.proofs.Substitutions.{joined, AllTerms}
use Rattle.border_repair.specs.declared.folding.Root.{Root}

-- a node and a child of it are the digram
pub record IsPair (d : Digram) (l : Label) (kids : List (List Label)) : Type 0 where
  pub upper : l ≡ d.upper
  pub before : List (List Label)
  pub below : List Label
  pub after : List (List Label)
  pub kids_are : kids ≡ before ++ (d.lower ∷ below) ∷ after
  pub place : suc (length before) ≡ d.place

-- labels, from the end on, as terms: a pair of the digram is a call of a rule over the children of both
pub data Folds (ranks : List ℕ) (x : ℕ) (d : Digram) : List Label → List (List Label) → Type 0 where
  nothing : Folds ranks x d [] []
  parameter : (ls : List Label) (ts : List (List Label)) → Folds ranks x d ls ts → Folds ranks x d (Param ∷ ls) ((Param ∷ []) ∷ ts)
  kept : (l : Label) (ls : List Label) (kids ts : List (List Label)) → l ≢ Param → length kids ≡ arity ranks l → (IsPair d l kids → ⊥) → Folds ranks x d ls (kids ++ ts) → Folds ranks x d (l ∷ ls) ((l ∷ joined kids) ∷ ts)
  made : (ls : List Label) (kids ts : List (List Label)) (p : IsPair d d.upper kids) → length kids ≡ arity ranks d.upper → Folds ranks x d ls (kids ++ ts) → Folds ranks x d (d.upper ∷ ls) ((Call x ∷ (joined p.before ++ (p.below ++ joined p.after))) ∷ ts)

-- what was written, without what was taken out again
abbrev pub live : List (Option Label) → List Label
live [] = []
live (None ∷ ls) = live ls
live (Some l ∷ ls) = l ∷ live ls

-- the roots of terms, the first one first, and the labels of these terms behind one another
abbrev pub HoldsTerms : List Root → List (Option Label) → List (List Label) → Type 0
HoldsTerms [] labels [] = labels ≡ []
HoldsTerms (r ∷ rs) labels [] = ⊥
HoldsTerms [] labels (t ∷ ts) = ⊥
HoldsTerms (r ∷ rs) labels (t ∷ ts) = (own : List (Option Label)) × (rest : List (Option Label)) × (labels ≡ Some r.label ∷ (own ++ rest)) × (t ≡ r.label ∷ live own) × (r.at ≡ length (own ++ rest)) × HoldsTerms rs rest ts

-- the root at a place from 1 on, the last one first
pub record IsFromTop (roots : List Root) (place : ℕ) (root : Root) : Type 0 where
  pub above : List Root
  pub below : List Root
  pub split : reverse roots ≡ above ++ root ∷ below
  pub here : suc (length above) ≡ place

-- labels were folded, from the end of a body on
pub record IsFolding (ranks : List ℕ) (d : Digram) (roots : List Root) (labels : List (Option Label)) (ls : List Label) : Type 0 where
  pub terms : List (List Label)
  pub holds : HoldsTerms roots labels terms
  pub folds : Folds ranks 0 d ls terms
  pub are : AllTerms ranks terms
  pub counts : AreTerms (arity ranks) (length terms) ls

-- and the children of the node before them are there
pub record CanFold (ranks : List ℕ) (d : Digram) (roots : List Root) (labels : List (Option Label)) (label : Label) : Type 0 where
  pub labels_behind : List Label
  pub folding : IsFolding ranks d roots labels labels_behind
  pub enough : arity ranks label ≤ length folding.terms

-- the rule's own label is that of the digram over its parameters
pub record HasPairRank (ranks : List ℕ) (d : Digram) : Type 0 where
  pub rank : suc (arity ranks (Call 0)) ≡ arity ranks d.upper + arity ranks d.lower

-- the same rules with their pairs folded, but for the first one
pub record AreFolded (d : Digram) (G H : List Rule) : Type 0 where
  pub many : length H ≡ length G
  pub ranks : ranks_of H ≡ ranks_of G
  pub first : body_at H 0 ≡ body_at G 0
  pub others : (r : ℕ) → 0 < r → r < length G → IsTerm (ranks_of G) (body_at G r) → Folds (ranks_of G) 0 d (body_at G r) (body_at H r ∷ [])

-- the first rules of others so far
pub record AreFoldedBefore (d : Digram) (G : List Rule) (k : ℕ) (H : List Rule) : Type 0 where
  pub many : length H ≡ k
  pub ranks : (r : ℕ) → r < k → rank_at H r ≡ rank_at G r
  pub first : 0 < k → body_at H 0 ≡ body_at G 0
  pub others : (r : ℕ) → 0 < r → r < k → IsTerm (ranks_of G) (body_at G r) → Folds (ranks_of G) 0 d (body_at G r) (body_at H r ∷ [])
