-- How a body is split into parts, which are bodies of new rules, and the nodes that stay outside of them.
use Rattle.std.specs.Prelude.{◌≡◌, ◌≢◌, ℕ, List, [], ◌∷◌, ◌++◌, length, get_or, map}
use Rattle.rule_arena.specs.declared.label.Label.{Label}
use Rattle.rule_arena.specs.declared.label.Label.TheVariants.{Call, Param}
use Rattle.slt_grammar.specs.Bodies.{arity, params, IsTerm}
use Rattle.slt_grammar.specs.Editing.{put}
use Rattle.slt_grammar.proofs.Substitutions.{joined, AllTerms}

-- a part from its front on, and the terms in the places of its parameters
pub record Piece : Type 0 where
  pub part : List Label
  pub args : List (List Label)

-- the term that it is
abbrev pub whole : Piece → List Label
whole p = put p.part p.args

abbrev pub all_args : List Piece → List (List Label)
all_args [] = []
all_args (p ∷ ps) = p.args ++ all_args ps

-- what is a term alone
abbrev pub bare : List Label → Piece
bare t = record { part = Param ∷ []; args = t ∷ [] }

-- labels begin with a node
abbrev pub HasFront : List Label → Type 0
HasFront ls = (l : Label) × (rest : List Label) × (ls ≡ l ∷ rest) × (l ≢ Param)

-- a node over pieces, in one part with theirs
abbrev pub grown : Label → List Piece → Piece
grown l kids = record { part = l ∷ joined (map (λ p. p.part) kids); args = all_args kids }

-- one term over as many terms as it has parameters
pub record IsPiece (ranks : List ℕ) (p : Piece) : Type 0 where
  pub term : IsTerm ranks p.part
  pub enough : length p.args ≡ params p.part
  pub terms : AllTerms ranks p.args

abbrev pub ArePieces : List ℕ → List Piece → Type 0
ArePieces ranks [] = Unit {0}
ArePieces ranks (p ∷ ps) = IsPiece ranks p × ArePieces ranks ps

module _ (ranks : List ℕ) (bodies : ℕ → List Label) where
  -- the term in place of a piece: what it is alone, or a call of the rule whose body is its part
  pub data Closes : Piece → List Label → Type 0 where
    alone : (t : List Label) → Closes (bare t) t
    as_rule : (p : Piece) (q : ℕ) → bodies q ≡ p.part → get_or ranks q 0 ≡ params p.part → IsPiece ranks p → HasFront p.part → Closes p (Call q ∷ joined p.args)

  pub data AllClose : List Piece → List (List Label) → Type 0 where
    none_closes : AllClose [] []
    one_closes : (p : Piece) (t : List Label) (ps : List Piece) (ts : List (List Label)) → Closes p t → AllClose ps ts → AllClose (p ∷ ps) (t ∷ ts)

  -- the terms that labels are, from the end on, as pieces
  pub data Splits : List Label → List Piece → Type 0 where
    nothing : Splits [] []
    parameter : (ls : List Label) (ps : List Piece) → Splits ls ps → Splits (Param ∷ ls) (bare (Param ∷ []) ∷ ps)
    inner : (l : Label) (ls : List Label) (kids ps : List Piece) → l ≢ Param → length kids ≡ arity ranks l → ArePieces ranks kids → Splits ls (kids ++ ps) → Splits (l ∷ ls) (grown l kids ∷ ps)
    outer : (l : Label) (ls : List Label) (kids ps : List Piece) (ts : List (List Label)) → l ≢ Param → length kids ≡ arity ranks l → Splits ls (kids ++ ps) → AllClose kids ts
        → Splits (l ∷ ls) (bare (l ∷ joined ts) ∷ ps)
