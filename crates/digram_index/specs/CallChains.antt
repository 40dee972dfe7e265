-- The patterns whose lower mark calls a rule, each chained to the one before it.
use Rattle.std.specs.Prelude.{◌≡◌, ◌<◌, ◌≤◌, ℕ, zero, suc, List, length, get_or, slice_get, Option, Some, None}
use Rattle.digram_index.specs.declared.patterns.Mark.TheVariants.{Call}
use Rattle.digram_index.specs.declared.patterns.Pattern.{Pattern}

-- the lower mark of the pattern at a place calls the rule with a number
pub record CallsNumber (ps : List Pattern) (number place : ℕ) : Type 0 where
  pub pattern : Pattern
  pub there : slice_get ps place ≡ Some pattern
  pub lower : pattern.lower ≡ Call number

-- the latest such pattern before a place
pub record IsLatest (ps : List Pattern) (number before : ℕ) (latest : Option ℕ) : Type 0 where
  pub calls : (e : ℕ) → latest ≡ Some e → (e < before) × CallsNumber ps number e
  pub last : (e : ℕ) → e < before → CallsNumber ps number e → (l : ℕ) × ((latest ≡ Some l) × (e ≤ l))

-- for each number of a rule the latest pattern that calls it, and for each pattern the one before it: each as the place
-- behind it, and 0 where there is none
pub record Chains : Type 0 where
  pub latest : List ℕ
  pub earlier : List ℕ

abbrev pub place_from : ℕ → Option ℕ
place_from zero = None
place_from (suc e) = Some e

-- the chains are those of the patterns
pub record AreChained (ps : List Pattern) (c : Chains) : Type 0 where
  pub latest : (n : ℕ) → IsLatest ps n (length ps) (place_from (get_or c.latest n 0))
  pub earlier : (n e : ℕ) → CallsNumber ps n e → IsLatest ps n e (place_from (get_or c.earlier e 0))
  pub room : length ps ≤ length c.earlier
