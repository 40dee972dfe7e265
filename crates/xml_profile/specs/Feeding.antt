-- The machine and the builder that gets its calls, as one sink of tokens.
use Rattle.std.specs.Prelude.{ℕ, true, List, ◌++◌, length, Option}
use Rattle.std.specs.Option.{option_map}
use Rattle.xml_tokens.specs.Tokens.{Token}
use Rattle.xml_tokenizer.specs.Standing.{Stands as HasCut, GoesOn}
use Rattle.xml_tokenizer.specs.declared.tokenizer.Tokenizer.{Tokenizer}
use Rattle.xml_nodes.specs.Machine.{State, step}
use Rattle.xml_nodes.specs.Taking.{Built}

-- the machine's state, and what is seen of the builder
pub record Joint : Type 0 where
  pub now : State
  pub built : Built

abbrev pub joint : State → Built → Joint
joint now built = record { now = now; built = built }

-- a token leads the machine on, and the builder gets its calls
abbrev pub joint_step : Joint → Token → Option Joint
joint_step j t = option_map (λ r. joint r.0 (record { log = j.built.log ++ r.1; sound = true; depth = length r.0.names })) (step j.now t)

-- from the one tokenizer and sink to the other the piece was read, and its tokens were taken
pub record TakesPiece (old new : Tokenizer) (before after : Joint) (piece : List ℕ) : Type 0 where
  pub goes : (tokens : List Token) (fed : List ℕ) → HasCut old tokens fed → GoesOn joint_step (λ ts. HasCut new ts (fed ++ piece)) before after tokens
