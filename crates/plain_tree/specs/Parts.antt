-- Parts of lists of bytes.
use Rattle.std.specs.Prelude.{ℕ, ◌==◌, Bool, true, false, ◌||◌, ◌&&◌, List, [], ◌∷◌}

abbrev pub begins_with : List ℕ → List ℕ → Bool
begins_with [] bytes = true
begins_with (p ∷ ps) [] = false
begins_with (p ∷ ps) (c ∷ cs) = (c == p) && begins_with ps cs

-- the bytes of part, of which there are some, stand one after the other in the bytes
abbrev pub has_part : List ℕ → List ℕ → Bool
has_part part [] = false
has_part part (c ∷ cs) = begins_with part (c ∷ cs) || has_part part cs
