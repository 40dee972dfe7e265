-- Chains of calls, and what is left behind them.
use Rattle.std.proofs.Common.{◌≡◌, ℕ, ◌+◌, ◌<◌, ◌≤◌, List, [], ◌∷◌, ◌++◌, length, drop, refl, arith}
use Rattle.rule_arena.specs.declared.label.Label.{Label}
use Rattle.slt_grammar.specs.Keyed.{KeyedRule}
use Rattle.preorder_address.specs.declared.descent.RuleStop.{RuleStop}
use Rattle.value_cursor.specs.Stops.{AreStops, IsAtStop, behind, segment_left, stops_of}

-- the rule of the last stop, which is the lowest
abbrev pub lowest : ℕ → List RuleStop → ℕ
lowest limit [] = limit
lowest limit (s ∷ ss) = lowest s.rule ss

pub lowest-snoc : (limit : ℕ) (ss : List RuleStop) (s : RuleStop) → lowest limit (ss ++ s ∷ []) ≡ s.rule
lowest-snoc limit [] s = refl
lowest-snoc limit (t ∷ ss) s = lowest-snoc t.rule ss s

module _ (G : List KeyedRule) where
  pub behind-snoc : (ss : List RuleStop) (s : RuleStop) (rest : List Label) → behind G (ss ++ s ∷ []) rest ≡ segment_left G (drop 1 (stops_of G s)) ++ behind G ss rest
  behind-snoc [] s rest = refl
  behind-snoc (t ∷ ss) s rest = behind-snoc ss s (segment_left G (drop 1 (stops_of G t)) ++ rest)

  pub stops-front : (limit : ℕ) (ss : List RuleStop) (s : RuleStop) → AreStops G limit (ss ++ s ∷ []) → AreStops G limit ss
  stops-front limit [] s a = tt
  stops-front limit (t ∷ ss) s a = (a.0, a.1, stops-front t.rule ss s a.2)

  pub stops-last : (limit : ℕ) (ss : List RuleStop) (s : RuleStop) → AreStops G limit (ss ++ s ∷ []) → (s.rule < lowest limit ss) × IsAtStop G s
  stops-last limit [] s a = (a.0, a.1)
  stops-last limit (t ∷ ss) s a = stops-last t.rule ss s a.2

  pub stops-snoc : (limit : ℕ) (ss : List RuleStop) (s : RuleStop) → AreStops G limit ss → s.rule < lowest limit ss → IsAtStop G s → AreStops G limit (ss ++ s ∷ [])
  stops-snoc limit [] s a h t = (h, t, tt)
  stops-snoc limit (u ∷ ss) s a h t = (a.0, a.1, stops-snoc u.rule ss s a.2 h t)

  -- no more than there are rules
  pub stops-few : (limit : ℕ) (ss : List RuleStop) → AreStops G limit ss → length ss + lowest limit ss ≤ limit
  stops-few limit [] a = omega arith
  stops-few limit (s ∷ ss) a = omega (arith, stops-few s.rule ss a.2, a.0)
