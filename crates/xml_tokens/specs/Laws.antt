-- What holds of all tokens.
use Rattle.std.specs.Prelude.{◌≡◌, ℕ, List, Some}
use Rattle.xml_tokens.specs.Tokens.{Token, IsToken}
use Rattle.xml_tokens.specs.TokenAt.{token_at}

-- bytes spell at most one token
abbrev pub OneToken : Type 0
OneToken = (s t : Token) (x : List ℕ) → IsToken s x → IsToken t x → s ≡ t

-- what spells a token is read as it
abbrev pub TokenIsRead : Type 0
TokenIsRead = (t : Token) (x : List ℕ) → IsToken t x → token_at x ≡ Some t

-- what is read as a token spells it
abbrev pub ReadIsToken : Type 0
ReadIsToken = (t : Token) (x : List ℕ) → token_at x ≡ Some t → IsToken t x
