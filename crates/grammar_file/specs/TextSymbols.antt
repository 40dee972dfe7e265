-- The symbols whose nodes have a text, and which texts are theirs.
use Rattle.std.specs.Prelude.{ℕ, if◌then◌else◌, List, [], ◌∷◌, ◌++◌, Option, Some, None, slice_get}
use Rattle.plain_tree.specs.declared.kind.Kind.{Kind}
use Rattle.plain_tree.specs.Lawful.{IsLawfulValue}
use Rattle.plain_tree.specs.Numbers.{has_value}
use Rattle.rule_arena.specs.declared.label.Label.{Label}
use Rattle.rule_arena.specs.declared.label.Label.TheVariants.{Symbol}

-- a symbol, if the nodes of its pair have a text
abbrev pub if_valued : Option (Kind × List ℕ) → ℕ → List ℕ
if_valued None f = []
if_valued (Some (kind, name)) f = if has_value kind then f ∷ [] else []

-- the symbols with a text among labels
abbrev pub text_symbols : List (Kind × List ℕ) → List Label → List ℕ
text_symbols names [] = []
text_symbols names (Symbol f ∷ ls) = if_valued (slice_get names f) f ++ text_symbols names ls
text_symbols names (l ∷ ls) = text_symbols names ls

-- a lawful text of a pair's nodes
abbrev pub IsTextOf : Option (Kind × List ℕ) → List ℕ → Type 0
IsTextOf None text = ⊥
IsTextOf (Some (kind, name)) text = IsLawfulValue kind text

-- one lawful text for each of the symbols, in their order
abbrev pub AreTextsOf : List (Kind × List ℕ) → List ℕ → List (List ℕ) → Type 0
AreTextsOf names [] [] = Unit {0}
AreTextsOf names [] (t ∷ ts) = ⊥
AreTextsOf names (f ∷ fs) [] = ⊥
AreTextsOf names (f ∷ fs) (t ∷ ts) = IsTextOf (slice_get names f) t × AreTextsOf names fs ts
