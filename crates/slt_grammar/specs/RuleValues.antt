-- The values of rules where a grammar changes.
use Rattle.std.specs.Prelude.{◌≡◌, ◌≢◌, ℕ, ◌+◌, ◌<◌, ◌≤◌, List, length}
use Rattle.slt_grammar.specs.Editing.{shifted}
use Rattle.slt_grammar.specs.Grammars.{value_at}
use Rattle.slt_grammar.specs.declared.rules.Rule.{Rule}

-- H has one rule more, at this place, and the values of G's rules
pub record HasRuleMore (place : ℕ) (G H : List Rule) : Type 0 where
  pub within : place ≤ length G
  pub more : length H ≡ length G + 1
  pub values : (r : ℕ) → r < length G → value_at H (shifted place r) ≡ value_at G r

-- as many rules, and each but one has the same value
pub record HaveOtherValues (rule : ℕ) (G H : List Rule) : Type 0 where
  pub rules : length H ≡ length G
  pub values : (r : ℕ) → r ≢ rule → r < length G → value_at H r ≡ value_at G r
