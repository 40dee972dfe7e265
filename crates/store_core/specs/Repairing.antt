-- What comes of settling the grammar that is held.
use Rattle.std.specs.Prelude.{◌≡◌, ◌≤◌, ◌⊎◌, ℕ, List}
use Rattle.slt_grammar.specs.Digrams.{IsSettled}
use Rattle.slt_grammar.specs.Grammars.{size, value}
use Rattle.slt_grammar.specs.declared.digram.Digram.{Digram}
use Rattle.slt_grammar.specs.declared.rules.Rule.{Rule}
use Rattle.border_repair.specs.Digrams.{IsCandidate, occurrences}

-- the second grammar is settled for a rank, stands for what the first does, and has no more nodes
pub record SettlesTo (rank : ℕ) (G H : List Rule) : Type 0 where
  pub settled : IsSettled H rank
  pub same : value H ≡ value G
  pub nodes : size H ≤ size G

-- no digram of at most this rank occurs more often in what a grammar stands for, and one does so often, if any is there
pub record IsGreatestWeight (rank : ℕ) (G : List Rule) (weight : ℕ) : Type 0 where
  pub most : (d : Digram) → IsCandidate rank d → occurrences d G ≤ weight
  pub some : (weight ≡ 0) ⊎ ((d : Digram) × IsCandidate rank d × (occurrences d G ≡ weight))
