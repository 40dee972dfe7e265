-- Hits whose numbers are raised.
use Rattle.std.proofs.Common.{◌≡◌, ℕ, ◌+◌, List, [], ◌∷◌, map, refl, add_assoc, zero-add}
use Rattle.rule_runs.specs.declared.listing.Hit.{Hit}
use Rattle.rule_runs.specs.Hits.{raised}

pub raised-twice : (a b : ℕ) (hs : List Hit) → map (raised a) (map (raised b) hs) ≡ map (raised (a + b)) hs
raised-twice a b [] = refl
raised-twice a b (h ∷ hs) = rw (raised-twice a b hs, add_assoc a b h.number) refl

pub raised-none : (hs : List Hit) → map (raised 0) hs ≡ hs
raised-none [] = refl
raised-none (h ∷ hs) = rw (raised-none hs, zero-add h.number) refl
