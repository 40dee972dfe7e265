-- Line ends (XML 1.0, fifth edition, 2.11): each #xD #xA, and each other #xD, becomes #xA.
use Rattle.std.specs.Prelude.{◌≡◌, ℕ, ◌==◌, Bool, true, false, ◌&&◌, List, [], ◌∷◌, if◌then◌else◌}

-- behind a #xD, where after_return, a first #xA belongs to it and is dropped
abbrev pub line_ends_after : Bool → List ℕ → List ℕ
line_ends_after after_return [] = []
line_ends_after after_return (c ∷ cs) =
    if c == 13 then 10 ∷ line_ends_after true cs else (if after_return && (c == 10) then line_ends_after false cs else c ∷ line_ends_after false cs)

abbrev pub line_ends : List ℕ → List ℕ
line_ends bytes = line_ends_after false bytes

-- whether a #xD is the last byte; after_return where there is none
abbrev pub ends_in_return : Bool → List ℕ → Bool
ends_in_return after_return [] = after_return
ends_in_return after_return (c ∷ cs) = ends_in_return (c == 13) cs

-- the byte is a #xA that belongs to a #xD just before
abbrev pub is_dropped : Bool → ℕ → Bool
is_dropped after_return c = after_return && (c == 10)

abbrev pub begins_dropped : Bool → List ℕ → Bool
begins_dropped after_return [] = false
begins_dropped after_return (c ∷ cs) = is_dropped after_return c

-- what a byte that isn't dropped becomes
abbrev pub line_end_of : ℕ → ℕ
line_end_of c = if c == 13 then 10 else c

-- none of the raw bytes is dropped, and these are the bytes that they become, one for each
abbrev pub Become : Bool → List ℕ → List ℕ → Type 0
Become after_return [] [] = Unit {0}
Become after_return (k ∷ ks) (c ∷ cs) = (is_dropped after_return k ≡ false) × (c ≡ line_end_of k) × Become (k == 13) ks cs
Become after_return _ _ = ⊥
