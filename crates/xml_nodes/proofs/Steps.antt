-- Steps over tokens one after the other.
use Rattle.std.proofs.Common.{◌≡◌, List, [], ◌∷◌, ◌++◌, refl, ap, sym, ◌∙◌, append_assoc, append-nil}
use Rattle.std.specs.Prelude.{Some, None}
use Rattle.xml_tokens.specs.Tokens.{Token}
use Rattle.xml_nodes.specs.Machine.{State, Event, Stepped, step, steps, then_on, calls_before}

pub calls_none : (es fs : List Event) (r : Stepped) → calls_before es (calls_before fs r) ≡ calls_before (es ++ fs) r
calls_none es fs None = refl
calls_none es fs (Some (s, gs)) = ap (λ z. Some (s, z)) (sym (append_assoc es fs gs))

then_calls : (es : List Event) (r : Stepped) (f : State → Stepped) → calls_before es (then_on r f) ≡ then_on (calls_before es r) f
then_calls es None f = refl
then_calls es (Some (s, fs)) f = calls_none es fs (f s)

pub no_calls : (r : Stepped) → calls_before [] r ≡ r
no_calls None = refl
no_calls (Some (s, es)) = refl

then_steps : (r : Stepped) (ts us : List Token) → ((s : State) → steps s (ts ++ us) ≡ then_on (steps s ts) (λ z. steps z us))
    → then_on r (λ z. steps z (ts ++ us)) ≡ then_on (then_on r (λ z. steps z ts)) (λ z. steps z us)
then_steps None ts us ih = refl
then_steps (Some (s, es)) ts us ih = ap (λ z. calls_before es z) (ih s) ∙ then_calls es (steps s ts) (λ z. steps z us)

pub steps-append : (ts us : List Token) (s : State) → steps s (ts ++ us) ≡ then_on (steps s ts) (λ z. steps z us)
steps-append [] us s = sym (no_calls (steps s us))
steps-append (t ∷ ts) us s = then_steps (step s t) ts us (λ z. steps-append ts us z)

-- one token more
pub one_step : (a s r : State) (ts : List Token) (t : Token) (log calls : List Event) → steps a ts ≡ Some (s, log) → step s t ≡ Some (r, calls)
    → steps a (ts ++ t ∷ []) ≡ Some (r, log ++ calls)
one_step a s r ts t log calls e f =
    steps-append ts (t ∷ []) a ∙ ap (λ z. then_on z (λ y. steps y (t ∷ []))) e ∙ ap (λ z. calls_before log (then_on z (λ y. steps y []))) f
    ∙ ap (λ z. Some (r, log ++ z)) (append-nil calls)

-- a token that may not stand there, whatever comes behind it
pub no_step : (a s : State) (ts : List Token) (t : Token) (us : List Token) (log : List Event) → steps a ts ≡ Some (s, log) → step s t ≡ None
    → steps a (ts ++ t ∷ us) ≡ None
no_step a s ts t us log e f =
    steps-append ts (t ∷ us) a ∙ ap (λ z. then_on z (λ y. steps y (t ∷ us))) e ∙ ap (λ z. calls_before log (then_on z (λ y. steps y us))) f
