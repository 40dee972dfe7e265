-- What a sink makes of tokens, some and then more.
use Rattle.std.proofs.Common.{◌≡◌, List, [], ◌∷◌, ◌++◌, refl, ap, ◌∙◌}
use Rattle.std.specs.Prelude.{Option, Some, None, option_and_then}
use Rattle.xml_tokens.specs.Tokens.{Token}
use Rattle.xml_tokenizer.specs.Taking.{taken}

module _ {State : Type 0} (step : State → Token → Option State) where
  taken-append : (ts us : List Token) (now : State) → taken step now (ts ++ us) ≡ option_and_then (λ next. taken step next us) (taken step now ts)
  taken-append [] us now = refl
  taken-append (t ∷ ts) us now = by (step now t) (λ next. taken-append ts us next) where
    by : (o : Option State) → ((next : State) → taken step next (ts ++ us) ≡ option_and_then (λ r. taken step r us) (taken step next ts))
        → option_and_then (λ next. taken step next (ts ++ us)) o ≡ option_and_then (λ r. taken step r us) (option_and_then (λ next. taken step next ts) o)
    by None h = refl
    by (Some next) h = h next

  pub taken_then : (ts us : List Token) (now mid : State) (last : Option State) → taken step now ts ≡ Some mid → taken step mid us ≡ last → taken step now (ts ++ us) ≡ last
  taken_then ts us now mid last e f = taken-append ts us now ∙ ap (option_and_then (λ next. taken step next us)) e ∙ f

  pub taken_one : (t : Token) (now next : State) → step now t ≡ Some next → taken step now (t ∷ []) ≡ Some next
  taken_one t now next e = ap (option_and_then (λ r. Some r)) e

  -- a token that is refused leads nowhere
  pub none_taken : (t : Token) (ts : List Token) (now : State) → step now t ≡ None → taken step now (t ∷ ts) ≡ None
  none_taken t ts now e = ap (option_and_then (λ next. taken step next ts)) e
