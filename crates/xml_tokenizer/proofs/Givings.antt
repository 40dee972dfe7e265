-- What the sink makes of a text.
use Rattle.std.proofs.Common.{◌≡◌, ℕ, List, ap, ◌∙◌}
use Rattle.std.specs.Prelude.{Option, Some, None}
use Rattle.xml_tokens.specs.Tokens.{Token, IsToken}
use Rattle.xml_tokenizer.specs.Taking.{Takes}
use Rattle.xml_tokens.proofs.TokenLaws.{one_token}

module _ {State : Type 0} (step : State → Token → Option State) (now : State) (text : List ℕ) (token : Token) (spelled : IsToken token text) where
  pub token_taken : (next : State) → step now token ≡ Some next → Takes step now next text
  token_taken next e = record { token = token; spelled = spelled; took = e }

  -- no other token has this text
  pub token_refused : step now token ≡ None → (t : Token) → IsToken t text → step now t ≡ None
  token_refused e t i = ap (step now) (one_token t token text i spelled) ∙ e
