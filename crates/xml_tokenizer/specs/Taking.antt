-- What a sink makes of tokens: a step for each, which leads from a state to the next or nowhere.
use Rattle.std.specs.Prelude.{◌≡◌, ℕ, List, [], ◌∷◌, ◌++◌, length, Option, Some, None, option_and_then}
use Rattle.std.specs.Str.{chars}
use lib.Utf8.{encodes}
use Rattle.xml_tokens.specs.Tokens.{Token, Character, IsToken}
use Rattle.xml_tokenizer.specs.Runs.{characters}

module _ {State : Type 0} (step : State → Token → Option State) where
  -- the state behind the tokens, if each may stand behind those before it
  abbrev pub taken : State → List Token → Option State
  taken now [] = Some now
  taken now (t ∷ ts) = option_and_then (λ next. taken next ts) (step now t)

  -- the text is a token's, which was taken
  pub record Takes (now next : State) (text : List ℕ) : Type 0 where
    pub token : Token
    pub spelled : IsToken token text
    pub took : step now token ≡ Some next

  -- the characters of the run's first bytes, at of them, may stand there, and the character behind them may not
  pub record RefusesRun (now : State) (run : List ℕ) (at : ℕ) : Type 0 where
    pub before : List ℕ
    pub character : ℕ
    pub after : List ℕ
    pub whole : chars run ≡ before ++ character ∷ after
    pub begins : at ≡ length (encodes before)
    pub last : State
    pub took : taken now (characters before) ≡ Some last
    pub refused : step last (Character character) ≡ None
