-- The pieces of a body that is read from its end, as three lists hold them.
use Rattle.std.specs.Prelude.{◌≡◌, ◌≤◌, ℕ, suc, List, [], ◌∷◌, ◌++◌, length, Bool, true, false}
use Rattle.rule_arena.specs.Preorder.{AreTerms}
use Rattle.rule_arena.specs.declared.label.Label.{Label}
use Rattle.rule_arena.specs.declared.label.Label.TheVariants.{Bottom, Symbol, Call, Param}
use Rattle.slt_grammar.specs.Algebras.{ranks_of}
use Rattle.slt_grammar.specs.Bodies.{arity}
use Rattle.slt_grammar.specs.Grammars.{body_at}
use Rattle.slt_grammar.specs.declared.digram.Digram.{Digram}
use Rattle.slt_grammar.specs.declared.rules.Rule.{Rule}
use Rattle.slt_grammar.proofs.Substitutions.{joined}
use Rattle.border_repair.specs.Cuts.{Cut, AreCutsOf, AreChosen, HangOver, IsCleanOver, AreCleanOver, IsCalmOver, AllCalmOver, AreCalm}
use Rattle.border_repair.specs.Splitting.{Piece, bare, HasFront, IsPiece, ArePieces, Splits, Closes, AllClose}
use Rattle.border_repair.specs.declared.cutting.Mark.{Mark}

-- a piece that is a term alone
abbrev pub IsBare : Piece → Type 0
IsBare p = (t : List Label) × (p ≡ bare t)

-- the node at the front of a part, or of the one argument where the part is a parameter
abbrev pub front : List Label → List Label → Label
front [] args = Param
front (Param ∷ ls) [] = Param
front (Param ∷ ls) (l ∷ args) = l
front (Bottom ∷ ls) args = Bottom
front (Symbol f ∷ ls) args = Symbol f
front (Call q ∷ ls) args = Call q

-- marks, parts and arguments, the last ones first, hold pieces
pub record HoldsFirst (m : Mark) (parts args : List Label) (p : Piece) (parts_behind args_behind : List Label) : Type 0 where
  pub parts_split : parts ≡ p.part ++ parts_behind
  pub args_split : args ≡ joined p.args ++ args_behind
  pub part : m.part ≡ length parts_behind
  pub arg : m.args ≡ length args_behind
  pub alone : m.bare ≡ true → IsBare p
  pub inner : m.bare ≡ false → HasFront p.part
  pub top : m.top ≡ front p.part (joined p.args)

abbrev pub Holds : List Mark → List Label → List Label → List Piece → Type 0
Holds [] parts args [] = (parts ≡ []) × (args ≡ [])
Holds (m ∷ ms) parts args [] = ⊥
Holds [] parts args (p ∷ ps) = ⊥
Holds (m ∷ ms) parts args (p ∷ ps) = (parts_behind : List Label) × (args_behind : List Label) × HoldsFirst m parts args p parts_behind args_behind × Holds ms parts_behind args_behind ps

-- the mark at a place from 1 on, the last one first, is of a parameter
pub record HasParameterAt (marks : List Mark) (place : ℕ) : Type 0 where
  pub before : List Mark
  pub mark : Mark
  pub behind : List Mark
  pub split : marks ≡ before ++ mark ∷ behind
  pub here : suc (length before) ≡ place
  pub parameter : mark.top ≡ Param

-- labels were read, from the end of a body on, and whether to its root: pieces of them are held, in whatever rules come behind these
pub record IsRead (d : Digram) (root : Bool) (rules : List Rule) (marks : List Mark) (parts args : List Label) (ls : List Label) : Type 0 where
  pub pieces : List Piece
  pub holds : Holds marks parts args pieces
  pub splits : (more : List Rule) → Splits (ranks_of (rules ++ more)) (body_at (rules ++ more)) ls pieces
  pub are : (more : List Rule) → ArePieces (ranks_of (rules ++ more)) pieces
  pub terms : (more : List Rule) → AreTerms (arity (ranks_of (rules ++ more))) (length pieces) ls
  pub cuts : List Cut
  pub cut : AreCutsOf pieces cuts
  pub chosen : AreChosen d root cuts
  pub hang : HangOver d rules ls cuts

-- labels were read, and the children of the node before them are held
pub record CanRead (d : Digram) (rules : List Rule) (marks : List Mark) (parts args : List Label) (label : Label) : Type 0 where
  pub labels : List Label
  pub read : IsRead d false rules marks parts args labels
  pub enough : arity (ranks_of rules) label ≤ length read.pieces

-- labels are read, over rules that came behind, which are calm where the labels are clean
pub record IsReadOn (d : Digram) (root : Bool) (rules news : List Rule) (marks : List Mark) (parts args : List Label) (ls : List Label) : Type 0 where
  pub more : List Rule
  pub grown : news ≡ rules ++ more
  pub read : IsRead d root news marks parts args ls
  pub calm : AreCleanOver d rules ls → AreCalm d rules → AreCalm d news

-- the arguments of the piece on top end at a place
pub record CanClose (rules : List Rule) (marks : List Mark) (parts args : List Label) (end : ℕ) : Type 0 where
  pub front : List Label
  pub behind : List Label
  pub args_are : args ≡ front ++ behind
  pub ends : end ≡ length behind
  pub piece : Piece
  pub pieces : List Piece
  pub holds : Holds marks parts behind (piece ∷ pieces)
  pub is : (others : List Rule) → IsPiece (ranks_of (rules ++ others)) piece

-- the piece gave way to a term, and what was before its arguments comes before that
pub record IsClosed (rules news : List Rule) (marks : List Mark) (parts args front : List Label) (piece : Piece) (pieces : List Piece) (start : ℕ) : Type 0 where
  pub more : List Rule
  pub grown : news ≡ rules ++ more
  pub term : List Label
  pub closes : (others : List Rule) → Closes (ranks_of (news ++ others)) (body_at (news ++ others)) piece term
  pub behind : List Label
  pub args_are : args ≡ front ++ (term ++ behind)
  pub starts : start ≡ length behind
  pub holds : Holds marks parts behind pieces
  pub calm : (d : Digram) → IsCalmOver d rules piece.part → AreCalm d rules → AreCalm d news

-- the children of the node that comes next are held
pub record HoldsKids (marks : List Mark) (parts args : List Label) (many : ℕ) : Type 0 where
  pub kids : List Piece
  pub pieces : List Piece
  pub are_many : length kids ≡ many
  pub holds : Holds marks parts args (kids ++ pieces)

-- and are pieces
pub record CanCloseKids (rules : List Rule) (marks : List Mark) (parts args : List Label) (many : ℕ) : Type 0 where
  pub held : HoldsKids marks parts args many
  pub are : (others : List Rule) → ArePieces (ranks_of (rules ++ others)) held.kids

-- they gave way to terms
pub record AreClosed (rules news : List Rule) (marks : List Mark) (parts args : List Label) (kids pieces : List Piece) (start : ℕ) : Type 0 where
  pub more : List Rule
  pub grown : news ≡ rules ++ more
  pub terms : List (List Label)
  pub close : (others : List Rule) → AllClose (ranks_of (news ++ others)) (body_at (news ++ others)) kids terms
  pub behind : List Label
  pub args_are : args ≡ joined terms ++ behind
  pub starts : start ≡ length behind
  pub holds : Holds marks parts behind pieces
  pub calm : (d : Digram) → AllCalmOver d rules kids → AreCalm d rules → AreCalm d news

-- a body was cut into parts, which are new rules, and what is outside of them, which are calm and clean where the body is clean
pub record IsCutOff (d : Digram) (rules news : List Rule) (body outside : List Label) : Type 0 where
  pub more : List Rule
  pub grown : news ≡ rules ++ more
  pub piece : Piece
  pub splits : (others : List Rule) → Splits (ranks_of (news ++ others)) (body_at (news ++ others)) body (piece ∷ [])
  pub closes : (others : List Rule) → Closes (ranks_of (news ++ others)) (body_at (news ++ others)) piece outside
  pub is : (others : List Rule) → IsPiece (ranks_of (news ++ others)) piece
  pub clean : IsCleanOver d rules body → IsCleanOver d news outside
  pub calm : IsCleanOver d rules body → AreCalm d rules → AreCalm d news
