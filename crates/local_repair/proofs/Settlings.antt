-- Grammars that are no larger than others.
use Rattle.std.proofs.Common.{◌≡◌, ◌∙◌, ◌≤◌, ◌+◌, ◌-◌, ◌^◌, ℕ, List, length, min, refl, arith}
use Rattle.slt_grammar.specs.Grammars.{size, value, IsSwept}
use Rattle.slt_grammar.specs.Keyed.{KeyedRule, rules_of}
use Rattle.slt_grammar.specs.declared.rules.Rule.{Rule}
use Rattle.slt_grammar.proofs.KeyedLemmas.{length-rules_of}
use Rattle.local_repair.specs.Settling.{IsNoLarger, IsLargerAtMost}

pub no-larger-itself : (G : List Rule) → IsNoLarger G G
no-larger-itself G = record { same = refl; nodes = omega arith; together = omega arith; swept = λ s. s }

pub no-larger-then : (G H J : List Rule) → IsNoLarger G H → IsNoLarger H J → IsNoLarger G J
no-larger-then G H J N M = record {
  same = M.same ∙ N.same;
  nodes = omega (arith, M.nodes, N.nodes);
  together = omega (arith, M.together, N.together);
  swept = λ s. M.swept (N.swept s);
}

pub larger-none : (G : List Rule) → IsLargerAtMost 0 G G
larger-none G = record { same = refl; nodes = omega arith; together = omega arith; swept = λ s. s }

pub larger-then : (more : ℕ) (G H J : List Rule) → IsLargerAtMost more G H → IsLargerAtMost 1 H J → IsLargerAtMost (more + 1) G J
larger-then more G H J N M = record {
  same = M.same ∙ N.same;
  nodes = omega (arith, N.nodes, M.nodes);
  together = omega (arith, N.together, M.together);
  swept = λ s. M.swept (N.swept s);
}

pub larger-within : (more most : ℕ) (G H : List Rule) → more ≤ most → IsLargerAtMost more G H → IsLargerAtMost most G H
larger-within more most G H l N = record { same = N.same; nodes = N.nodes; together = omega (arith, N.together, l); swept = N.swept }

-- what a grammar became lighter it may become heavier again: both numbers are as great as a number can be
pub no-larger-again : (G H J : List KeyedRule) (begin times : ℕ) → IsNoLarger (rules_of G) (rules_of H) → begin ≡ min (size (rules_of G) + length G) (2 ^ 64 - 1)
    → times ≤ begin - min (size (rules_of H) + length H) (2 ^ 64 - 1) → IsLargerAtMost times (rules_of H) (rules_of J) → IsNoLarger (rules_of G) (rules_of J)
no-larger-again G H J begin times N b t M = record {
  same = M.same ∙ N.same;
  nodes = omega (arith, N.nodes, M.nodes);
  together = within (size (rules_of G) + length (rules_of G)) (size (rules_of H) + length (rules_of H)) _ begin times (2 ^ 64 - 1) N.together (let l = length-rules_of G in omega (arith, b, l)) (let l = length-rules_of H in omega (arith, t, l)) M.together;
  swept = λ s. M.swept (N.swept s);
}
  where
    within : (g h j begin times top : ℕ) → h ≤ g → begin ≡ min g top → times ≤ begin - min h top → j ≤ h + times → j ≤ g
    within g h j begin times top l b t m = omega (arith, l, b, t, m)

module _ (G H : List KeyedRule) (v : value (rules_of H) ≡ value (rules_of G)) (w : IsSwept (rules_of G) → IsSwept (rules_of H)) where
  -- with one rule more, and less in size by one at least
  pub no-larger-replaced : (count : ℕ) → 3 ≤ count → length H ≡ length G + 1 → size (rules_of H) + count ≡ size (rules_of G) + 2 → IsNoLarger (rules_of G) (rules_of H)
  no-larger-replaced count c r s =
      let a = length-rules_of G in
      let b = length-rules_of H in
      record { same = v; nodes = omega arith; together = omega arith; swept = w }

  pub no-larger-both : size (rules_of H) ≤ size (rules_of G) → size (rules_of H) + length H ≤ size (rules_of G) + length G → IsNoLarger (rules_of G) (rules_of H)
  no-larger-both s t =
      let a = length-rules_of G in
      let b = length-rules_of H in
      record { same = v; nodes = s; together = omega arith; swept = w }

  pub no-larger-pruned : size (rules_of H) ≤ size (rules_of G) → length H ≤ length G → IsNoLarger (rules_of G) (rules_of H)
  no-larger-pruned s r =
      let a = length-rules_of G in
      let b = length-rules_of H in
      record { same = v; nodes = s; together = omega arith; swept = w }

  -- with one rule more, and no larger size
  pub larger-replaced : (count : ℕ) → 2 ≤ count → length H ≡ length G + 1 → size (rules_of H) + count ≡ size (rules_of G) + 2 → IsLargerAtMost 1 (rules_of G) (rules_of H)
  larger-replaced count c r s =
      let a = length-rules_of G in
      let b = length-rules_of H in
      record { same = v; nodes = omega arith; together = omega arith; swept = w }

  pub larger-refused : size (rules_of H) ≤ size (rules_of G) → size (rules_of H) + length H ≤ size (rules_of G) + length G → IsLargerAtMost 1 (rules_of G) (rules_of H)
  larger-refused s t =
      let a = length-rules_of G in
      let b = length-rules_of H in
      record { same = v; nodes = s; together = omega arith; swept = w }
