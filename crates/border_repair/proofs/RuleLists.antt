-- Rules with others behind them.
use Rattle.std.proofs.Common.{◌≡◌, ◌⊎◌, inl, inr, ℕ, ◌<◌, ◌≤◌, List, [], ◌∷◌, ◌++◌, length, refl, ap, sym, ◌∙◌}
use Rattle.std.proofs.lemmas.Bool.{cases_lt}
use Rattle.std.proofs.lemmas.List.{get_or_append_left, get_or_past}
use Rattle.rule_arena.specs.declared.label.Label.{Label}
use Rattle.rule_arena.specs.declared.label.Label.TheVariants.{Bottom, Symbol, Call, Param}
use Rattle.slt_grammar.specs.Algebras.{ranks_of}
use Rattle.slt_grammar.specs.Bodies.{arity, CallsBelow, IsTerm}
use Rattle.slt_grammar.specs.Grammars.{body_at, no_rule}
use Rattle.slt_grammar.specs.declared.rules.Rule.{Rule}
use Rattle.slt_grammar.proofs.RuleMeanings.{rank_at-ranks_of}
use Rattle.border_repair.specs.Splitting.{Piece, IsPiece}

-- nodes have as many children as before
pub arity-same : (G others : List Rule) (l : Label) → CallsBelow (length G) (l ∷ []) → arity (ranks_of (G ++ others)) l ≡ arity (ranks_of G) l
arity-same G others Bottom b = refl
arity-same G others (Symbol f) b = refl
arity-same G others Param b = refl
arity-same G others (Call q) b = rank_at-ranks_of (G ++ others) q ∙ ap (λ (R : Rule). R.rank) (get_or_append_left G others no_rule q b.0) ∙ sym (rank_at-ranks_of G q)

-- a rule whose body is a part is there
pub called-there : (H : List Rule) (p : Piece) (q : ℕ) → IsPiece (ranks_of H) p → body_at H q ≡ p.part → q < length H
called-there H p q is e = by_place (cases_lt q (length H)) where
  none : (ls : List Label) → ls ≡ [] → IsTerm (ranks_of H) ls → ⊥
  none [] z t = t
  none (l ∷ ls) z t = cc

  by_place : (q < length H) ⊎ (length H ≤ q) → q < length H
  by_place (inl l) = l
  by_place (inr l) = absurd (none p.part (sym e ∙ ap (λ (R : Rule). R.body) (get_or_past H q no_rule l)) is.term)
