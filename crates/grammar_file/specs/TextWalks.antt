-- Lists of marks that are being told, part by part.
use Rattle.std.specs.Prelude.{ℕ, ◌<◌, List, [], ◌∷◌, ◌++◌, length, drop}
use Rattle.plain_tree.specs.declared.kind.Kind.{Kind}
use Rattle.slt_grammar.specs.declared.rules.Rule.{Rule}
use Rattle.grammar_file.specs.TextLists.{Lists, parts_at, marks_of}
use Rattle.grammar_file.specs.declared.text_lists.Mark.{Mark}
use Rattle.grammar_file.specs.declared.text_lists.Part.{Part}
use Rattle.grammar_file.specs.declared.text_walk.Level.{Level}

module _ (lists : Lists) where
  -- the list that a level tells
  abbrev pub list_at : Level → List Part
  list_at l = parts_at lists l.rule l.segment

  -- the marks that levels still tell, the innermost first
  abbrev pub coming : List (Kind × List ℕ) → List Rule → List Level → List Mark
  coming names G [] = []
  coming names G (l ∷ ls) = marks_of names G (drop l.next (list_at l)) ++ coming names G ls

  -- each level has a part left
  abbrev pub AreUnfinished : List Level → Type 0
  AreUnfinished [] = Unit {0}
  AreUnfinished (l ∷ ls) = (l.next < length (list_at l)) × AreUnfinished ls
