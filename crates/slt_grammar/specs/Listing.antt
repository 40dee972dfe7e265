-- What a list of rules keeps beside them.
use Rattle.std.specs.Prelude.{◌≡◌, ◌<◌, ◌≤◌, ◌^◌, ℕ, List, length}
use Rattle.slt_grammar.specs.Grammars.{whole}
use Rattle.slt_grammar.specs.declared.rules.Rule.{Rule}

-- there is room for a count of each rule's calls, and the labels are counted and fewer than 2^63
pub record IsListed (G : List Rule) (calls : List ℕ) (labels : ℕ) : Type 0 where
  pub room : length G ≤ length calls
  pub counted : labels ≡ whole G
  pub few : labels < 2 ^ 63
