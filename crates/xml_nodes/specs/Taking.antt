-- What a token does to the machine and to the builder that gets its calls.
use Rattle.std.specs.Prelude.{◌≡◌, ℕ, Bool, true, List, [], ◌∷◌, ◌++◌, length, Some, None}
use Rattle.std.specs.Str.{chars}
use lib.Utf8.{encodes}
use Rattle.xml_tokens.specs.Tokens.{Token, Character}
use Rattle.xml_tokenizer.specs.Runs.{characters}
use Rattle.xml_nodes.specs.Machine.{State, Event, Stepped, step, steps}
use Rattle.xml_nodes.specs.declared.builder.Builder.{Ghosts}

-- what is seen of a builder: the calls that it got, whether none was refused, and how many elements are open
pub record Built : Type 0 where
  pub log : List Event
  pub sound : Bool
  pub depth : ℕ

abbrev pub built : {B : Type 0} → Ghosts B → B → Built
built told b = record { log = told.log b; sound = told.sound b; depth = told.depth b }

-- the builder may get the calls of a token in this state
abbrev pub IsReady : State → Built → Type 0
IsReady s b = (b.sound ≡ true) × (b.depth ≡ length s.names)

-- the token leads from the one state to the other, and the builder got its calls
pub record TakesBy (by : State → Token → Stepped) (old : State) (token : Token) (new : State) (before after : Built) : Type 0 where
  pub calls : List Event
  pub stepped : by old token ≡ Some (new, calls)
  pub logged : after.log ≡ before.log ++ calls
  pub sound : after.sound ≡ true
  pub depth : after.depth ≡ length new.names

abbrev pub Takes : State → Token → State → Built → Built → Type 0
Takes = TakesBy step

-- the characters of the run's first bytes, at of them, may stand there, and the character behind them may not
pub record RefusesRun (now : State) (run : List ℕ) (at : ℕ) : Type 0 where
  pub before : List ℕ
  pub character : ℕ
  pub after : List ℕ
  pub whole : chars run ≡ before ++ character ∷ after
  pub begins : at ≡ length (encodes before)
  pub last : State
  pub took : steps now (characters before) ≡ Some (last, [])
  pub refused : step last (Character character) ≡ None
