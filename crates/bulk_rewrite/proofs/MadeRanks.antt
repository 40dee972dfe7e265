-- No rule that is made has a greater rank than all that there were.
use Rattle.std.proofs.Common.{◌≡◌, ◌<◌, ◌≤◌, ℕ, zero, suc, List, [], ◌∷◌, length, get_or, Some, slice_get, arith}
use Rattle.std.proofs.lemmas.Option.{slice_get-get_or}
use Rattle.slt_grammar.specs.Algebras.{Algebra}
use Rattle.slt_grammar.specs.Automata.{Downward}
use Rattle.slt_grammar.specs.Grammars.{rank_at}
use Rattle.slt_grammar.specs.Ranks.{greatest_rank}
use Rattle.slt_grammar.specs.declared.rules.Rule.{Rule}
use Rattle.rule_runs.specs.Reached.{RuleStates}
use Rattle.bulk_rewrite.specs.Making.{AreFew}

-- no rank is greater than the greatest
rank-below : (G : List Rule) (r : ℕ) → rank_at G r ≤ greatest_rank G
rank-below [] r = omega arith
rank-below (R ∷ G) zero = omega arith
rank-below (R ∷ G) (suc r) = omega (arith, rank-below G r)

-- and the greatest is no greater than a bound of all
ranks-below : (H : List Rule) (n : ℕ) → ((i : ℕ) → i < length H → rank_at H i ≤ n) → greatest_rank H ≤ n
ranks-below [] n h = omega arith
ranks-below (R ∷ H) n h = omega (arith, h 0 (omega arith), ranks-below H n (λ i lt. h (suc i) (omega arith)))

-- few rules have no greater ranks than those that they come from
pub few-ranks : {S D : Type 0} (A : Algebra S) (W : Downward S D) (G H : List Rule) → AreFew A W G H → greatest_rank H ≤ greatest_rank G
few-ranks {S} {D} A W G H few = ranks-below H (greatest_rank G) below
  where
    below : (i : ℕ) → i < length H → rank_at H i ≤ greatest_rank G
    below i lt =
        let none : RuleStates S × D = ((0, []), W.start) in
        let t : RuleStates S × D = get_or few.triples i none in
        let at : slice_get few.triples i ≡ Some t = slice_get-get_or few.triples i none (omega (arith, few.many)) in
        omega (arith, few.ranks i t.0 t.1 at, rank-below G t.0.0)
