-- Rules whose calls give way to the outsides of the called rules, and which are then split.
use Rattle.std.specs.Prelude.{◌≡◌, ℕ, zero, suc, ◌+◌, ◌-◌, ◌<◌, List, [], ◌∷◌, ◌++◌, length, get_or}
use Rattle.rule_arena.specs.declared.label.Label.{Label}
use Rattle.rule_arena.specs.declared.label.Label.TheVariants.{Bottom, Symbol, Call, Param}
use Rattle.slt_grammar.specs.Algebras.{ranks_of}
use Rattle.slt_grammar.specs.Bodies.{params, CallsBelow, IsTerm}
use Rattle.slt_grammar.specs.Editing.{put}
use Rattle.slt_grammar.specs.Grammars.{body_at}
use Rattle.slt_grammar.specs.Segments.{segment}
use Rattle.slt_grammar.specs.Tours.{Stop}
use Rattle.slt_grammar.specs.declared.digram.Digram.{Digram}
use Rattle.slt_grammar.specs.declared.rules.Rule.{Rule}
use Rattle.border_repair.specs.Cuts.{IsCleanOver, AreCalm}
use Rattle.border_repair.specs.Splitting.{Piece, Closes, Splits}

-- the labels, from the end on, with each call replaced by the outside of its rule over the call's arguments
pub data Expands (ranks : List ℕ) (outside : ℕ → List Label) : List Label → List (List Label) → Type 0 where
  nothing : Expands ranks outside [] []
  parameter : (ls : List Label) (ts : List (List Label)) → Expands ranks outside ls ts → Expands ranks outside (Param ∷ ls) ((Param ∷ []) ∷ ts)
  bottom : (ls : List Label) (ts : List (List Label)) → Expands ranks outside ls ts → Expands ranks outside (Bottom ∷ ls) ((Bottom ∷ []) ∷ ts)
  symbol : (f : ℕ) (ls a b : List Label) (ts : List (List Label)) → Expands ranks outside ls (a ∷ b ∷ ts) → Expands ranks outside (Symbol f ∷ ls) ((Symbol f ∷ (a ++ b)) ∷ ts)
  call : (q : ℕ) (ls : List Label) (kids ts : List (List Label)) → length kids ≡ get_or ranks q 0 → Expands ranks outside ls (kids ++ ts) → Expands ranks outside (Call q ∷ ls) (put (outside q) kids ∷ ts)

-- what a part of a node becomes: of a call the segments of the outside between its parameters
abbrev pub expanded_part : (ℕ → List Label) → Label → ℕ → List Label
expanded_part outside (Call q) i = segment i (outside q)
expanded_part outside Bottom zero = Bottom ∷ []
expanded_part outside Bottom (suc i) = []
expanded_part outside (Symbol f) zero = Symbol f ∷ []
expanded_part outside (Symbol f) (suc i) = []
expanded_part outside Param zero = Param ∷ []
expanded_part outside Param (suc i) = []

abbrev pub expanded_stop : (ℕ → List Label) → Stop Label → List Label
expanded_stop outside m = expanded_part outside m.item m.part

-- the outsides of rules, and none where no rule is
abbrev pub outside_at : List (List Label) → ℕ → List Label
outside_at outsides q = get_or outsides q []

-- an outside may stand in for calls of a rule
pub record StandsIn (ranks news : List ℕ) (limit : ℕ) (outside : List Label) (q : ℕ) : Type 0 where
  pub term : IsTerm news outside
  pub many : params outside ≡ get_or ranks q 0
  pub below : CallsBelow limit outside

-- a rule's body, with the outsides in the places of its calls, is split into rules, and its own outside closes it
pub record IsOutside (G H : List Rule) (outside : ℕ → List Label) (r : ℕ) : Type 0 where
  pub expanded : List Label
  pub expands : Expands (ranks_of G) outside (body_at G r) (expanded ∷ [])
  pub piece : Piece
  pub splits : Splits (ranks_of H) (body_at H) expanded (piece ∷ [])
  pub closes : Closes (ranks_of H) (body_at H) piece (outside r)
  pub stands : StandsIn (ranks_of G) (ranks_of H) (length H) (outside r) r

-- the second rules are made from the first: each has an outside, and the start's body is expanded
pub record IsExposed (G H : List Rule) (outside : ℕ → List Label) : Type 0 where
  pub each : (r : ℕ) → r + 1 < length G → IsOutside G H outside r
  pub start : Expands (ranks_of G) outside (body_at G (length G - 1)) (body_at H (length H - 1) ∷ [])
  pub some : 1 < length H

-- so far, whatever rules come behind
pub record IsExposing (G : List Rule) (k : ℕ) (rules : List Rule) (outsides : List (List Label)) : Type 0 where
  pub some : 0 < length rules
  pub many : length outsides ≡ k
  pub each : (others : List Rule) (q : ℕ) → q < k → IsOutside G (rules ++ others) (outside_at outsides) q

-- the rules so far are calm, and the outsides are clean by their rims
pub record AreClean (d : Digram) (k : ℕ) (rules : List Rule) (outsides : List (List Label)) : Type 0 where
  pub calm : AreCalm d rules
  pub clean : (q : ℕ) → q < k → IsCleanOver d rules (outside_at outsides q)
