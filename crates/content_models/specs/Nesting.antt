-- How deep the parentheses among tokens are nested.
use Rattle.std.specs.Prelude.{ℕ, ◌+◌, ◌-◌, max, List, [], ◌∷◌}
use Rattle.content_models.specs.declared.model_reading.Nesting.{Nesting}
use Rattle.content_models.specs.Spelled.{Token, Open, Close}

-- how many are open, and how many at most were so, behind one token more
abbrev pub nested : Token → Nesting → Nesting
nested Open n = record { current = n.current + 1; most = max n.most (n.current + 1) }
nested Close n = record { current = n.current - 1; most = n.most }
nested _ n = n

abbrev pub deepest_from : Nesting → List Token → ℕ
deepest_from n [] = n.most
deepest_from n (t ∷ ts) = deepest_from (nested t n) ts

-- at most so many are open at once
abbrev pub deepest : List Token → ℕ
deepest ts = deepest_from (record { current = 0; most = 0 }) ts
