-- What settling keeps.
use Rattle.std.specs.Prelude.{◌≡◌, ◌≤◌, ◌+◌, ℕ, List, length}
use Rattle.slt_grammar.specs.Grammars.{size, value, IsSwept}
use Rattle.slt_grammar.specs.declared.rules.Rule.{Rule}

-- the second grammar stands for the same, and is no larger: neither by its size nor with its rules counted too
pub record IsNoLarger (G H : List Rule) : Type 0 where
  pub same : value H ≡ value G
  pub nodes : size H ≤ size G
  pub together : size H + length H ≤ size G + length G
  pub swept : IsSwept G → IsSwept H

-- the second grammar stands for the same and has no larger size; with its rules counted too it is larger by so much at most
pub record IsLargerAtMost (more : ℕ) (G H : List Rule) : Type 0 where
  pub same : value H ≡ value G
  pub nodes : size H ≤ size G
  pub together : size H + length H ≤ size G + length G + more
  pub swept : IsSwept G → IsSwept H
