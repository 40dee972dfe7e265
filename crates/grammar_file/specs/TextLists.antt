-- Lists of marks, one for each segment of a rule's value, made of marks and of earlier lists.
use Rattle.std.specs.Prelude.{◌≡◌, ℕ, zero, suc, ◌<◌, List, [], ◌∷◌, ◌++◌, length, Option, Vec, option_to_list}
use Rattle.std.specs.Global.{Global}
use Rattle.plain_tree.specs.declared.kind.Kind.{Kind}
use Rattle.rule_arena.specs.declared.label.Label.{Label}
use Rattle.slt_grammar.specs.Segments.{preorder, segment}
use Rattle.slt_grammar.specs.declared.rules.Rule.{Rule}
use Rattle.grammar_file.specs.Marks.{marks, Thins}
use Rattle.grammar_file.specs.declared.text_lists.Mark.{Mark}
use Rattle.grammar_file.specs.declared.text_lists.Part.{Part}
use Rattle.grammar_file.specs.declared.text_lists.Part.TheVariants.{Node, Segment}

-- the lists of all rules: for each of its segments the parts
abbrev pub Lists : Type 0
Lists = List (Vec (Vec Part Global) Global)

-- the parts of a segment
abbrev pub segment_parts : List (Vec Part Global) → ℕ → List Part
segment_parts [] i = []
segment_parts (L ∷ Ls) zero = L.items
segment_parts (L ∷ Ls) (suc i) = segment_parts Ls i

-- and of a rule's segment
abbrev pub parts_at : Lists → ℕ → ℕ → List Part
parts_at [] r i = []
parts_at (S ∷ Ss) zero i = segment_parts S.items i
parts_at (S ∷ Ss) (suc r) i = parts_at Ss r i

-- the marks of a segment of a rule's value
abbrev pub segment_marks : List (Kind × List ℕ) → List Rule → ℕ → ℕ → List Mark
segment_marks names G r i = marks names (segment i (preorder G r))

-- the marks that parts stand for, one after another
abbrev pub marks_of : List (Kind × List ℕ) → List Rule → List Part → List Mark
marks_of names G [] = []
marks_of names G (Node m ∷ ps) = m ∷ marks_of names G ps
marks_of names G (Segment q i ∷ ps) = segment_marks names G q i ++ marks_of names G ps

-- parts of a rule's list: segments of earlier rules, each with a node
abbrev pub ArePartsBelow : List (Kind × List ℕ) → List Rule → ℕ → List Part → Type 0
ArePartsBelow names G r [] = Unit {0}
ArePartsBelow names G r (Node m ∷ ps) = ArePartsBelow names G r ps
ArePartsBelow names G r (Segment q i ∷ ps) = (q < r) × (0 < length (segment_marks names G q i)) × ArePartsBelow names G r ps

-- parts that stand for these marks
pub record AreParts (names : List (Kind × List ℕ)) (G : List Rule) (r : ℕ) (parts : List Part) (all : List Mark) : Type 0 where
  pub below : ArePartsBelow names G r parts
  pub same : Thins (marks_of names G parts) all

-- a part, if there is one, that stands for the marks of labels
abbrev pub IsPartOf : List (Kind × List ℕ) → List Rule → ℕ → List Label → Option Part → Type 0
IsPartOf names G r labels part = AreParts names G r (option_to_list part) (marks names labels)

-- the parts of each segment of a rule stand for its marks
abbrev pub AreSegments : List (Kind × List ℕ) → List Rule → ℕ → List (Vec Part Global) → Type 0
AreSegments names G r segments = (i : ℕ) → AreParts names G r (segment_parts segments i) (segment_marks names G r i)

-- there are lists for the rules before one, and they are right
pub record AreTextLists (names : List (Kind × List ℕ)) (G : List Rule) (rules : ℕ) (lists : Lists) : Type 0 where
  pub count : length lists ≡ rules
  pub each : (r i : ℕ) → r < rules → AreParts names G r (parts_at lists r i) (segment_marks names G r i)
