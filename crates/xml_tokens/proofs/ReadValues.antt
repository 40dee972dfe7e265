-- The value that the code reads is the one that the bytes spell.
use Rattle.std.proofs.Common.{◌≡◌, ℕ, List, sym, ◌∙◌}
use Rattle.std.specs.Prelude.{Option, Some, None, Result, Ok, Err, IfOk, IfSome, IfNone}
use Rattle.xml_tokens.specs.Attributes.{IsValue}
use Rattle.xml_tokens.specs.TokenAt.{value_of}
use Rattle.xml_tokens.specs.Seen.{seen_value, value_bytes}
use Rattle.xml_tokens.specs.declared.values.Value.{Value}
use Rattle.xml_tokens.proofs.Pieces.{value_is, value_was}

module _ (give : ℕ → ℕ) (x : List ℕ) where
  found : (o : Option Value) → seen_value o ≡ value_of give x → IfSome o (λ v. IsValue give (value_bytes v) x)
  found None e = tt
  found (Some v) e = value_was give x (value_bytes v) (sym e)

  missing : (o : Option Value) → seen_value o ≡ value_of give x → IfNone o ((v : List ℕ) → IsValue give v x → ⊥)
  missing None e = λ v i. let bad = e ∙ value_is give v x i in cc
  missing (Some v) e = tt

  pub value_found : {E : Type 0} (r : Result (Option Value) E) → IfOk r (λ o. seen_value o ≡ value_of give x) → IfOk r (λ o. IfSome o (λ v. IsValue give (value_bytes v) x))
  value_found (Ok o) e = found o e
  value_found (Err k) e = tt

  pub value_missing : {E : Type 0} (r : Result (Option Value) E) → IfOk r (λ o. seen_value o ≡ value_of give x) → IfOk r (λ o. IfNone o ((v : List ℕ) → IsValue give v x → ⊥))
  value_missing (Ok o) e = missing o e
  value_missing (Err k) e = tt
