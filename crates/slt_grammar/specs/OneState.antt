-- Automata that tell no nodes apart.
use Rattle.std.specs.Prelude.{◌≡◌, ℕ}
use Rattle.slt_grammar.specs.Algebras.{Algebra}

-- every node means what bottom means
abbrev pub HasOneState : {S : Type 0} → Algebra S → Type 0
HasOneState {S} A = (symbol : ℕ) (kids rest : S) → A.node symbol kids rest ≡ A.bottom
