-- Sets of names.
use Rattle.std.specs.Prelude.{◌≡◌, ℕ, Bool, true, false, List, ◌++◌, map, Option, Some, None, nat_eq}
use Rattle.std.specs.Map.{lookup}
use lib.Pointwise.{pointwise}
use Rattle.std.specs.declared.vec.Vec.{Vec}
use Rattle.xml_tokens.specs.Attributes.{has_name, are_distinct}

-- what a map of names shows
abbrev pub shown : {A : Type 0} → List (Vec ℕ A × ℕ) → List (List ℕ × ℕ)
shown = map (λ e. (e.0.items, e.1))

abbrev pub place_of : List ℕ → List (List ℕ × ℕ) → Option ℕ
place_of name places = lookup (pointwise nat_eq name) places

abbrev pub is_found : Option ℕ → Bool
is_found None = false
is_found (Some n) = true

-- the attributes in front of those left have distinct names, which are the names of the set
pub record AreSeen (all left : List (List ℕ × List ℕ)) (places : List (List ℕ × ℕ)) : Type 0 where
  pub prefix : List (List ℕ × List ℕ)
  pub whole : all ≡ prefix ++ left
  pub distinct : are_distinct prefix ≡ true
  pub names : (name : List ℕ) → has_name name prefix ≡ is_found (place_of name places)
