-- Rules are looked at in turn, and any of them goes.
use Rattle.std.proofs.Common.{◌≡◌, ℕ, ◌+◌, ◌-◌, ◌<◌, ◌≤◌, List, length, refl, ◌∙◌, arith}
use Rattle.slt_grammar.specs.Grammars.{IsSwept, value}
use Rattle.slt_grammar.specs.Keyed.{KeyedRule, rules_of}
use Rattle.slt_grammar.specs.Ranks.{greatest_rank}
use Rattle.rule_pruning.proofs.Taken.{IsTaken}

-- what stays while rules go
pub record IsWithout (F G : List KeyedRule) : Type 0 where
  pub swept : IsSwept (rules_of G)
  pub value : value (rules_of G) ≡ value (rules_of F)
  pub ranks : greatest_rank (rules_of G) ≤ greatest_rank (rules_of F)

-- as many turns are left as rules from one on
pub record IsDissolving (F G : List KeyedRule) (rule turn : ℕ) : Type 0 where
  pub left : rule + (length F - turn) ≡ length G
  pub within : turn < length F
  pub fewer : length G ≤ length F
  pub without : IsWithout F G

pub dissolving-begins : (F : List KeyedRule) → 0 < length F → IsSwept (rules_of F) → IsDissolving F F 0 0
dissolving-begins F some swept = record {
  left = omega arith;
  within = some;
  fewer = omega arith;
  without = record { swept = swept; value = refl; ranks = omega arith };
}

module _ (F G : List KeyedRule) (rule turn : ℕ) (P : IsDissolving F G rule turn) (more : turn + 1 < length F) where
  pub dissolving-there : rule + 1 < length G
  dissolving-there = omega (arith, P.left, more)

  pub dissolving-stays : IsDissolving F G (rule + 1) (turn + 1)
  dissolving-stays = record { left = omega (arith, P.left, more); within = more; fewer = P.fewer; without = P.without }

  pub dissolving-takes : (H : List KeyedRule) → IsTaken G H rule → value (rules_of H) ≡ value (rules_of G) → IsDissolving F H rule (turn + 1)
  dissolving-takes H T v = record {
    left = omega (arith, P.left, more, T.rules);
    within = more;
    fewer = omega (arith, T.rules, P.fewer);
    without = record { swept = T.swept; value = v ∙ P.without.value; ranks = omega (arith, T.ranks, P.without.ranks) };
  }
