-- Hits in a row that have one symbol.
use Rattle.std.specs.Prelude.{◌≡◌, ℕ, List, [], map, replicate, Option, Some, None, slice_get, get_or}
use Rattle.rule_runs.specs.declared.alike.AlikeHits.{AlikeHits}
use Rattle.rule_runs.specs.declared.listing.Hit.{Hit}

-- the symbols of hits
abbrev pub symbols : List Hit → List ℕ
symbols = map (λ h. h.symbol)

-- those of hits that have one symbol
abbrev pub alike_symbols : AlikeHits → List ℕ
alike_symbols a = replicate a.count a.symbol

-- those of the next hits, if there are any
abbrev pub first_symbols : Option AlikeHits → List ℕ
first_symbols None = []
first_symbols (Some a) = alike_symbols a

-- of some lists of hits it is known that all have one symbol
abbrev pub AreAlike : List (List Hit) → List (Option AlikeHits) → Type 0
AreAlike hits known = (i : ℕ) (a : AlikeHits) → slice_get known i ≡ Some (Some a) → symbols (get_or hits i []) ≡ alike_symbols a
