-- What a table tells of a name of a kind.
use Rattle.std.proofs.Common.{◌≡◌, ◌≢◌, ℕ, List, false, Option, Some, None, IfSome, IfNone, is_some, unwrap_or, slice_get, refl}
use Rattle.plain_tree.specs.declared.kind.Kind.{Kind}
use Rattle.plain_tree.specs.NodePairs.{Pair}
use Rattle.bulk_rewrite.specs.NewNames.{TellsKnown, IsRenamedSymbol}

module _ (names : List Pair) (kind : Kind) (name old : List ℕ) where
  pub found-sign : (o : Option ℕ) → IfSome o (λ i. slice_get names i ≡ Some (kind, name)) → IfNone o ((i : ℕ) → slice_get names i ≢ Some (kind, name)) → TellsKnown names name (kind, old) (record { allowed = is_some o; attribute = false; same = false })
  found-sign None some none = record { known = λ e. absurd (cc); lacking = λ e i. none i.0 i.1; silent = refl }
  found-sign (Some i) some none = record { known = λ e. (i, some); lacking = λ e. absurd (cc); silent = refl }

  pub found-symbol : (o : Option ℕ) (f : ℕ) → IfSome o (λ i. slice_get names i ≡ Some (kind, name)) → IfNone o ((i : ℕ) → slice_get names i ≢ Some (kind, name)) → IsRenamedSymbol names name (kind, old) (unwrap_or o f)
  found-symbol None f some none = λ i. absurd (none i.0 i.1)
  found-symbol (Some g) f some none = λ i. some
