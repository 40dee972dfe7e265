-- What was read of a document or a fragment, and which byte can't come next.
use Rattle.std.specs.Prelude.{◌≡◌, ℕ, List, [], ◌∷◌, ◌++◌, Some, None, ◌⊎◌}
use Rattle.xml_tokens.specs.Tokens.{Token, IsToken}
use Rattle.xml_tokenizer.specs.Scanning.{scan_step}
use Rattle.xml_tokenizer.specs.Standing.{StandsAt}
use Rattle.xml_tokenizer.specs.declared.scan.Scan.{Scan}
use Rattle.xml_tokenizer.specs.declared.scan.Step.TheVariants.{Whole, Dead}
use Rattle.xml_nodes.specs.Machine.{State, Event, step, steps}

-- The bytes at the front are whole tokens, which lead from the first state to this one with these calls; the raw bytes behind them
-- begin one token more and are held, on which the scan has come this far.
pub record StandsFrom (from : State) (front raw held : List ℕ) (scan : Scan) (now : State) (log : List Event) : Type 0 where
  pub tokens : List Token
  pub read : StandsAt front raw held scan tokens
  pub stepped : steps from tokens ≡ Some (now, log)

-- behind these bytes held and this state, neither a document nor a fragment goes on with this byte
abbrev pub Refuses : List ℕ → Scan → State → ℕ → Type 0
Refuses held scan now c = (scan_step scan c ≡ Dead) ⊎ ((scan_step scan c ≡ Whole) × ((t : Token) → IsToken t (held ++ c ∷ []) → step now t ≡ None))
