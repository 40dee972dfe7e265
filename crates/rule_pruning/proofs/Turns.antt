-- Rules are looked at in turn, callees first.
use Rattle.std.proofs.Common.{◌≡◌, ℕ, ◌+◌, ◌-◌, ◌<◌, ◌≤◌, List, length, remove, inl, inr, refl, ◌∙◌, subst, arith}
use Rattle.std.proofs.lemmas.Bool.{cases_lt}
use Rattle.std.proofs.lemmas.List.{length-map}
use Rattle.slt_grammar.specs.Digrams.{Saves}
use Rattle.slt_grammar.specs.Grammars.{IsSwept, size, value}
use Rattle.slt_grammar.specs.Keyed.{KeyedRule, rules_of}
use Rattle.slt_grammar.specs.KeyedEdits.{rule_dropped, unshifted_keyed}
use Rattle.slt_grammar.specs.Ranks.{greatest_rank}
use Rattle.slt_grammar.proofs.KeyedLemmas.{length-rules_of}
use Rattle.slt_grammar.proofs.Removals.{length-left}
use Rattle.rule_pruning.specs.Saving.{AllSave}
use Rattle.rule_pruning.proofs.Taken.{IsTaken}

-- the rules before one save nodes, and as many turns are left as rules from it on
pub record IsPruning (F G : List KeyedRule) (rule turn : ℕ) : Type 0 where
  pub left : rule + (length F - turn) ≡ length G
  pub within : turn < length F
  pub swept : IsSwept (rules_of G)
  pub save : (r : ℕ) → r < rule → Saves (rules_of G) r
  pub value : value (rules_of G) ≡ value (rules_of F)
  pub size : size (rules_of G) ≤ size (rules_of F)
  pub fewer : length G ≤ length F
  pub ranks : greatest_rank (rules_of G) ≤ greatest_rank (rules_of F)

pub pruning-begins : (F : List KeyedRule) → 0 < length F → IsSwept (rules_of F) → IsPruning F F 0 0
pruning-begins F some swept = record {
  left = omega arith;
  within = some;
  swept = swept;
  save = λ r h. absurd (omega (arith, h));
  value = refl;
  size = omega arith;
  fewer = omega arith;
  ranks = omega arith;
}

module _ (F G : List KeyedRule) (rule turn : ℕ) (P : IsPruning F G rule turn) (more : turn + 1 < length F) where
  pub pruning-there : rule + 1 < length G
  pruning-there = omega (arith, P.left, more)

  -- a rule that saves nodes stays
  pub pruning-stays : Saves (rules_of G) rule → IsPruning F G (rule + 1) (turn + 1)
  pruning-stays s = record {
    left = omega (arith, P.left, more);
    within = more;
    swept = P.swept;
    save = λ r h. elim (cases_lt r rule) [
      | inl l ↦ P.save r l
      | inr l ↦ let e : rule ≡ r = omega (arith, h, l) in subst (Saves (rules_of G)) e s
    ];
    value = P.value;
    size = P.size;
    fewer = P.fewer;
    ranks = P.ranks;
  }

  -- another goes
  pub pruning-takes : (H : List KeyedRule) → IsTaken G H rule → (Saves (rules_of G) rule → ⊥) → value (rules_of H) ≡ value (rules_of G) → IsPruning F H rule (turn + 1)
  pruning-takes H T useless v = record {
    left = omega (arith, P.left, more, T.rules);
    within = more;
    swept = T.swept;
    save = λ r h. T.save r h (P.save r h);
    value = v ∙ P.value;
    size = omega (arith, T.size useless, P.size);
    fewer = omega (arith, T.rules, P.fewer);
    ranks = omega (arith, T.ranks, P.ranks);
  }

pub pruning-ends : (F G : List KeyedRule) (rule turn : ℕ) → IsPruning F G rule turn → length F ≤ turn + 1 → AllSave (rules_of G)
pruning-ends F G rule turn P h r k = P.save r (omega (arith, P.left, P.within, h, k, length-rules_of G))

-- dropping makes rules fewer
pub one-fewer : (G : List KeyedRule) (rule : ℕ) → rule + 1 < length G → length (rule_dropped G rule) + 1 ≡ length G
one-fewer G rule h = omega (arith, length-map (remove G rule) (unshifted_keyed rule), length-left G rule (omega (arith, h)))
