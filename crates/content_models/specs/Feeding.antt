-- How the machine is fed the tokens of a model.
use Rattle.std.specs.Prelude.{◌≡◌, ℕ, List, Some, None}
use Rattle.xml_tokens.specs.Cutting.{back}
use Rattle.content_models.specs.declared.model_reading.Nesting.{Nesting}
use Rattle.content_models.specs.Machine.{At, step}
use Rattle.content_models.specs.Nesting.{nested}
use Rattle.content_models.specs.Spelled.{Token}
use Rattle.content_models.specs.Tokens.{Found, is_blank}

-- no token stands at the front of the bytes, or the machine refuses it
abbrev pub Refuses : At → Found → Type 0
Refuses m None = Unit {0}
Refuses m (Some p) = step m p.0 ≡ None

-- the machine has read the token at the front of the bytes, and this follows it
pub record Takes (old new : At) (before after : Nesting) (found : Found) (rest : List ℕ) : Type 0 where
  pub token : Token
  pub left : List ℕ
  pub is : found ≡ Some (token, left)
  pub skipped : rest ≡ back is_blank left
  pub read : step old token ≡ Some new
  pub nesting : after ≡ nested token before
