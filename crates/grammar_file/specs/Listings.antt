-- What one stop of a tour does to the parts of a rule's segments.
use Rattle.std.specs.Prelude.{◌≡◌, ◌⊎◌, List, [], ◌∷◌, ◌++◌, Option, Some, Vec, option_to_list}
use Rattle.std.specs.Global.{Global}
use Rattle.rule_arena.specs.declared.label.Label.{Label}
use Rattle.rule_arena.specs.declared.label.Label.TheVariants.{Param}
use Rattle.grammar_file.specs.declared.text_lists.Listing.{Listing}
use Rattle.grammar_file.specs.declared.text_lists.Mark.TheVariants.{Bare}
use Rattle.grammar_file.specs.declared.text_lists.Part.{Part}
use Rattle.grammar_file.specs.declared.text_lists.Part.TheVariants.{Node}

-- the last part is of nodes without a text
abbrev pub EndsBare : List Part → Type 0
EndsBare parts = (before : List Part) × (parts ≡ before ++ Node Bare ∷ [])

-- a parameter ends the segment, and another label adds its part, if it has one; nodes without a text behind such are no new part
abbrev pub Adds : Label → Option Part → Listing → Listing → Type 0
Adds Param part s t = (v : Vec Part Global) × (v.items ≡ s.begun.items) × (t.done.items ≡ s.done.items ++ v ∷ []) × (t.begun.items ≡ [])
Adds l part s t = (t.done.items ≡ s.done.items) × ((t.begun.items ≡ s.begun.items ++ option_to_list part) ⊎ ((part ≡ Some (Node Bare)) × EndsBare s.begun.items × (t.begun.items ≡ s.begun.items)))
