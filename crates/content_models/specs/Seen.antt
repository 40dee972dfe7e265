-- What the program's tokens stand for.
use Rattle.std.specs.Prelude.{List, ℕ, Option, Some, None}
use Rattle.std.specs.Borrow.{Bor}
use Rattle.content_models.specs.declared.token.Token as declared
use Rattle.content_models.specs.declared.token.Token.TheVariants as tokens
use Rattle.content_models.specs.Spelled.{Token, Word, Open, Close, Comma, Bar, Question, Star, Plus}

abbrev pub token_of : declared.Token → Token
token_of (tokens.Word name) = Word name.now
token_of tokens.Open = Open
token_of tokens.Close = Close
token_of tokens.Comma = Comma
token_of tokens.Bar = Bar
token_of tokens.Question = Question
token_of tokens.Star = Star
token_of tokens.Plus = Plus

-- what the program found
abbrev pub seen : Option (declared.Token × Bor (List ℕ)) → Option (Token × List ℕ)
seen None = None
seen (Some (t, rest)) = Some (token_of t, rest.now)
