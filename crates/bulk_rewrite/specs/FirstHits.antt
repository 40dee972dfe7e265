-- The first node that is hit.
use Rattle.std.specs.Prelude.{◌≡◌, ℕ, List, [], ◌∷◌, map, Option, Some, None, All, slice_get, true}
use Rattle.slt_grammar.specs.Algebras.{Algebra}
use Rattle.slt_grammar.specs.Automata.{Downward, hits}
use Rattle.slt_grammar.specs.Terms.{Term}
use Rattle.rule_runs.specs.Hits.{numbers, symbols_in}
use Rattle.rule_runs.specs.declared.listing.Hit.{Hit}
use Rattle.bulk_rewrite.specs.declared.hit_runs.FirstHit.{FirstHit}

-- what is told of the first of these symbols, if there is one: which it is, and whether all are the same
abbrev pub IsFirstOf : List ℕ → Option FirstHit → Type 0
IsFirstOf fs None = fs ≡ []
IsFirstOf fs (Some hit) = ((rest : List ℕ) × (fs ≡ hit.symbol ∷ rest)) × (hit.only ≡ true → All (λ f. f ≡ hit.symbol) fs)

-- it is that of the nodes that are hit
pub record IsFirstHit {S D : Type 0} (A : Algebra S) (W : Downward S D) (t : Term) (hit : Option FirstHit) : Type 0 where
  pub found : List Hit
  pub are : numbers found ≡ hits A W t
  pub symbols : All (λ h. slice_get (symbols_in t) h.number ≡ Some h.symbol) found
  pub first : IsFirstOf (map (λ h. h.symbol) found) hit
