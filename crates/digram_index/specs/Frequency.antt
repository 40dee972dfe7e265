-- How frequent digrams are of which three occurrences share no node.
use Rattle.std.specs.Prelude.{◌≡◌, ◌≢◌, ◌≤◌, ◌*◌, ◌-◌, ◌/◌, ℕ, List, Option, max}
use Rattle.slt_grammar.specs.Digrams.{digram_rank, HasThreeDisjoint}
use Rattle.slt_grammar.specs.declared.digram.Digram.{Digram}
use Rattle.slt_grammar.specs.declared.rules.Rule.{Rule}
use Rattle.digram_index.specs.declared.patterns.Pattern.{Pattern}
use Rattle.digram_index.specs.Linked.{Linked, cell_count}
use Rattle.digram_index.specs.Spots.{Spot, spot_count, IsOften}

-- how frequent a digram with so many occurrences is: where its labels differ their number, and where they are equal half of it, rounded
-- up, and three at least
pub record IsFrequency (d : Digram) (count f : ℕ) : Type 0 where
  pub differ : d.upper ≢ d.lower → f ≡ count
  pub same : d.upper ≡ d.lower → f ≡ max 3 (count - count / 2)

-- no digram within the bound is more frequent by more than a sixteenth
abbrev pub IsMostFrequent : List Rule → Linked → ℕ → Digram → Type 0
IsMostFrequent G I bound d =
    (e : Digram) (m n : ℕ) → digram_rank G e ≤ bound → HasThreeDisjoint G e → IsFrequency d (cell_count d I.cells) m → IsFrequency e (cell_count e I.cells) n → 16 * n ≤ 17 * m

-- the same of patterns
pub record IsRate (p : Pattern) (count f : ℕ) : Type 0 where
  pub differ : p.upper ≢ p.lower → f ≡ count
  pub same : p.upper ≡ p.lower → f ≡ max 3 (count - count / 2)

abbrev pub IsBest : List (Option Spot) → ℕ → Pattern → Type 0
IsBest ss bound p = (q : Pattern) (m n : ℕ) → q.rank ≤ bound → IsOften 3 q ss → IsRate p (spot_count p ss) m → IsRate q (spot_count q ss) n → 16 * n ≤ 17 * m
