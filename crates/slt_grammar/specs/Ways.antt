-- Levels that are given one after another.
use Rattle.std.specs.Prelude.{◌≡◌, List, [], ◌∷◌, Option, Some, None, slice_get}
use Rattle.slt_grammar.specs.Keyed.{KeyedRule}
use Rattle.slt_grammar.specs.declared.level.Level.{Level}

-- the first level that is left was given, and None exactly where none is left
abbrev pub IsNextLevel : List Level → Option Level → List Level → Type 0
IsNextLevel old None new = (old ≡ []) × (new ≡ [])
IsNextLevel old (Some level) new = old ≡ level ∷ new

-- the rules of these levels are the same in both
abbrev pub HaveSameRules : List Level → List KeyedRule → List KeyedRule → Type 0
HaveSameRules [] G H = Unit {0}
HaveSameRules (level ∷ levels) G H = (slice_get H level.rule ≡ slice_get G level.rule) × HaveSameRules levels G H
