-- What rules are that were made of others, those of marked instances apart.
use Rattle.std.specs.Prelude.{◌≡◌, ℕ, zero, suc, ◌+◌, ◌<◌, ◌≤◌, Bool, true, if◌then◌else◌, List, length, Some, slice_get, ◌⊎◌}
use Rattle.plain_tree.specs.declared.kind.Kind.{Kind}
use Rattle.rule_arena.specs.declared.label.Label.TheVariants.{Call}
use Rattle.slt_grammar.specs.Grammars.{IsGrammar, body_at, rank_at, calls_of, whole}
use Rattle.slt_grammar.specs.Ranks.{greatest_rank}
use Rattle.slt_grammar.specs.declared.rules.Rule.{Rule}
use Rattle.value_tests.specs.MarkedInstances.{marked_nodes}

-- the sum of a function over the numbers below one
abbrev pub sum_below : ℕ → (ℕ → ℕ) → ℕ
sum_below zero f = 0
sum_below (suc n) f = sum_below n f + f n

-- Some of the rules H are alone: each of these is for one marked instance of a rule of G, and is called at one place at most, by another
-- rule that is alone or by the start. Those alone have no more nodes than the marked instances' bodies, and the others no more than G.
pub record IsIsolated (names : List (Kind × List ℕ)) (marks : List ℕ) (G H : List Rule) : Type 0 where
  pub grammar : IsGrammar H
  pub is_alone : ℕ → Bool
  pub alone : sum_below (length H) (λ r. if is_alone r then length (body_at H r) else 0) ≤ marked_nodes names marks G
  pub others : sum_below (length H) (λ r. if is_alone r then 0 else length (body_at H r)) ≤ whole G
  pub once : (r : ℕ) → r < length H → is_alone r ≡ true → calls_of H r ≤ 1
  pub callers : (r q place : ℕ) → r < length H → is_alone q ≡ true → slice_get (body_at H r) place ≡ Some (Call q) → (is_alone r ≡ true) ⊎ (r + 1 ≡ length H)
  pub ranks : (r : ℕ) → rank_at H r ≤ greatest_rank G
