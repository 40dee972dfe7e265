-- Look-ups in what a map of names shows.
use Rattle.std.proofs.Common.{◌≡◌, ℕ, List, [], ◌∷◌, ◌++◌, refl, ap, cond}
use Rattle.std.specs.Prelude.{Some, nat_eq}
use Rattle.std.specs.Map.{lookup}
use lib.Pointwise.{pointwise}
use Rattle.std.specs.declared.vec.Vec.{Vec}
use Rattle.plain_tree.specs.NamePlaces.{shown, place_of}

module _ {A : Type 0} where
  pub place_of-shown : (name : List ℕ) (es : List (Vec ℕ A × ℕ)) → place_of name (shown es) ≡ lookup (λ k. pointwise nat_eq name k.items) es
  place_of-shown name [] = refl
  place_of-shown name (e ∷ es) = ap (λ o. cond (pointwise nat_eq name e.0.items) (Some e.1) o) (place_of-shown name es)

  pub shown-append : (es fs : List (Vec ℕ A × ℕ)) → shown (es ++ fs) ≡ shown es ++ shown fs
  shown-append [] fs = refl
  shown-append (e ∷ es) fs = ap (λ xs. (e.0.items, e.1) ∷ xs) (shown-append es fs)
