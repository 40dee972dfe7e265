-- The nodes of labels as marks: which have a text, and where others stand between them.
use Rattle.std.specs.Prelude.{◌≡◌, ◌⊎◌, ℕ, if◌then◌else◌, List, [], ◌∷◌, ◌++◌, Option, Some, None, slice_get}
use Rattle.plain_tree.specs.declared.kind.Kind.{Kind}
use Rattle.plain_tree.specs.Numbers.{has_value}
use Rattle.rule_arena.specs.declared.label.Label.{Label}
use Rattle.rule_arena.specs.declared.label.Label.TheVariants.{Symbol}
use Rattle.grammar_file.specs.declared.text_lists.Mark.{Mark}
use Rattle.grammar_file.specs.declared.text_lists.Mark.TheVariants.{Valued, Bare}

-- the mark of a symbol's nodes, by their pair
abbrev pub mark_at : Option (Kind × List ℕ) → ℕ → List Mark
mark_at None f = []
mark_at (Some (kind, name)) f = if has_value kind then Valued f ∷ [] else Bare ∷ []

-- the marks of labels
abbrev pub marks : List (Kind × List ℕ) → List Label → List Mark
marks names [] = []
marks names (Symbol f ∷ ls) = mark_at (slice_get names f) f ++ marks names ls
marks names (l ∷ ls) = marks names ls

-- the symbols with a text
abbrev pub valued : List Mark → List ℕ
valued [] = []
valued (Valued f ∷ ms) = f ∷ valued ms
valued (Bare ∷ ms) = valued ms

-- the first are the second, but that of bare ones one behind another some may be left out, and not all
abbrev pub Thins : List Mark → List Mark → Type 0
Thins [] [] = Unit {0}
Thins [] (m ∷ ms) = ⊥
Thins (w ∷ ws) [] = ⊥
Thins (w ∷ ws) (m ∷ ms) = (w ≡ m) × (Thins ws ms ⊎ ((m ≡ Bare) × Thins (w ∷ ws) ms))
